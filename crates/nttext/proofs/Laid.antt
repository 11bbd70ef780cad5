-- The text laid from a source is the text of the term that it means. Assumes nothing.
use mathlib.Core.Path.{◌≡◌, refl, sym, ap, ◌∙◌}
use mathlib.Core.Bool.{Bool, true, false, true≢false}
use mathlib.Core.List.{List, [], ◌∷◌, ◌++◌, append_assoc, append-nil}
use Prim.Native.Nat.{ℕ, ◌≤◌}
use native.Mathlib.Omega.{arith}
use lib.ListN.{length, take, drop, length-append}
use lib.Seq.{take_at}
use Rattle.utf8.specs.Characters.{is_character_lem, one_octet, char_bytes, text_bytes}
use Rattle.utf8.specs.Texts.{are_characters, AllCharacters}
use Rattle.utf8.proofs.Texts.{text-unique, are_all}
use Rattle.names.specs.Entering.{same_text_lem}
use Rattle.names.proofs.Same.{same-is, is_same, not_same}
use Rattle.ntline.specs.Classes.{is_white_lem}
use Rattle.ntline.specs.Grammar as grammar
use Rattle.ntline.specs.Escapes.{fed_by}
use Rattle.ntline.specs.Lines.{Source, source, up_to, inner, source_of, meant_by}
use Rattle.ntline.proofs.Hearing.{up-to, inner-is}
use Rattle.nttext.specs.Texts.{canonical_bytes, xsd_string, mark_bytes, text_of_term}
use Rattle.nttext.specs.Laying.{laid, xsd_mark, tail_bytes, laid_text}
use Rattle.nttext.proofs.Laying.{iri-laid, string-laid}
use Rattle.nttext.proofs.Given.{iriref-chars}
use Rattle.nttext.proofs.Plain.{plain-laid, label-plain, tag_plain, white_laid}
use Rattle.nttext.proofs.Shapes.{Shape, a-name, a-blank, bare, tagged, typed, hatted, shape_of, term_of, shape_meant}

-- ---- terminals

-- '<' and '>' stand for themselves
angle_laid : (inside : List ℕ) {iri : List ℕ} → grammar.IriChars inside iri → laid false 0 0 (0x3C ∷ (inside ++ (0x3E ∷ []))) ≡ 0x3C ∷ (text_bytes iri ++ (0x3E ∷ []))
unfolding laid fed_by is_white_lem char_bytes one_octet
angle_laid inside d = ap (λ (l : List ℕ). 0x3C ∷ l) (iri-laid d (0x3E ∷ []))

iri-whole_laid : {s iri : List ℕ} → grammar.IRIREF s iri → laid false 0 0 s ≡ 0x3C ∷ (text_bytes iri ++ (0x3E ∷ []))
iri-whole_laid (grammar.IRIREF.iriref {inside = inside} d abs is) = ap (laid false 0 0) is ∙ angle_laid inside d

iri-alone : {source iri : List ℕ} → grammar.IriChars source iri → laid false 0 0 source ≡ text_bytes iri
unfolding laid
iri-alone {source = source} {iri = iri} d = ap (laid false 0 0) (sym (append-nil source)) ∙ iri-laid d [] ∙ append-nil (text_bytes iri)

iri-inner_laid : {s iri : List ℕ} → grammar.IRIREF s iri → laid false 0 0 (inner s) ≡ text_bytes iri
iri-inner_laid (grammar.IRIREF.iriref {inside = inside} d abs is) =
    ap (λ (l : List ℕ). laid false 0 0 (inner l)) is ∙ ap (laid false 0 0) (inner-is 0x3C 0x3E inside) ∙ iri-alone d

quoted_laid : (inside : List ℕ) {chars : List ℕ} → grammar.StringChars inside chars → laid true 0 0 (0x22 ∷ (inside ++ (0x22 ∷ []))) ≡ 0x22 ∷ (canonical_bytes chars ++ (0x22 ∷ []))
unfolding laid fed_by char_bytes one_octet
quoted_laid inside d = ap (λ (l : List ℕ). 0x22 ∷ l) (string-laid d (0x22 ∷ []))

string-whole_laid : {s chars : List ℕ} → grammar.STRING s chars → laid true 0 0 s ≡ 0x22 ∷ (canonical_bytes chars ++ (0x22 ∷ []))
string-whole_laid (grammar.STRING.string {inside = inside} d is) = ap (laid true 0 0) is ∙ quoted_laid inside d

-- ---- a literal's mark

nothing-behind : tail_bytes [] ≡ []
unfolding laid same_text_lem
nothing-behind = refl

xsd_bytes : text_bytes xsd_string ≡ xsd_string
unfolding text_bytes char_bytes one_octet
xsd_bytes = refl

xsd_are : are_characters xsd_string ≡ true
unfolding are_characters is_character_lem
xsd_are = refl

pub xsd_chars : AllCharacters xsd_string
xsd_chars = are_all xsd_string xsd_are

pub unmarked : (xs ys : List ℕ) → xs ++ (0x3E ∷ []) ≡ ys ++ (0x3E ∷ []) → xs ≡ ys
unmarked xs ys e =
    let size : length xs ≡ length ys = omega (arith, ap length e, length-append xs (0x3E ∷ []), length-append ys (0x3E ∷ [])) in
    sym (take_at xs (0x3E ∷ []) (length xs) refl) ∙ ap (take (length xs)) e ∙ take_at ys (0x3E ∷ []) (length xs) (sym size)

same-mark : (iri : List ℕ) → AllCharacters iri → same_text_lem (0x5E ∷ 0x5E ∷ 0x3C ∷ (text_bytes iri ++ (0x3E ∷ []))) xsd_mark ≡ same_text_lem iri xsd_string
same-mark iri all = which (same_text_lem iri xsd_string) refl
  where
    same-three : (xs ys : List ℕ) → ◌≡◌ {A = List ℕ} (0x5E ∷ 0x5E ∷ 0x3C ∷ xs) (0x5E ∷ 0x5E ∷ 0x3C ∷ ys) → xs ≡ ys
    same-three xs ys e = cc

    which : (x : Bool) → same_text_lem iri xsd_string ≡ x → same_text_lem (0x5E ∷ 0x5E ∷ 0x3C ∷ (text_bytes iri ++ (0x3E ∷ []))) xsd_mark ≡ x
    which true e =
        let is : iri ≡ xsd_string = same-is iri xsd_string e in
        is_same (0x5E ∷ 0x5E ∷ 0x3C ∷ (text_bytes iri ++ (0x3E ∷ []))) xsd_mark
        (ap (λ (l : List ℕ). 0x5E ∷ 0x5E ∷ 0x3C ∷ (l ++ (0x3E ∷ []))) (ap text_bytes is ∙ xsd_bytes))
    which false e =
        not_same (0x5E ∷ 0x5E ∷ 0x3C ∷ (text_bytes iri ++ (0x3E ∷ []))) xsd_mark
        (λ f.
        let g : text_bytes iri ≡ text_bytes xsd_string = unmarked (text_bytes iri) xsd_string (same-three _ _ f) ∙ sym xsd_bytes in
        true≢false (sym (is_same iri xsd_string (text-unique iri xsd_string all xsd_chars g)) ∙ e))

tag_other : (l : List ℕ) → same_text_lem (0x40 ∷ l) xsd_mark ≡ false
unfolding same_text_lem
tag_other l = refl

tag_laid : {tag language : List ℕ} → grammar.LANGTAG tag language → laid false 0 0 tag ≡ 0x40 ∷ text_bytes language
unfolding text_bytes char_bytes one_octet
tag_laid (grammar.LANGTAG.langtag {c = c} {cs = cs} e d) = plain-laid (0x40 ∷ c ∷ cs) (tag_plain (grammar.LANGTAG.langtag e d))

pub tail-tag : {space tag language : List ℕ} → grammar.White space → grammar.LANGTAG tag language → tail_bytes (space ++ tag) ≡ mark_bytes (grammar.Sort.tagged language)
unfolding mark_bytes
tail-tag {space = space} {tag = tag} {language = language} w g =
    let e : laid false 0 0 (space ++ tag) ≡ 0x40 ∷ text_bytes language = white_laid w tag ∙ tag_laid g in
    rw (e, tag_other (text_bytes language)) refl

hats_laid : (rest : List ℕ) → laid false 0 0 (0x5E ∷ 0x5E ∷ rest) ≡ 0x5E ∷ 0x5E ∷ laid false 0 0 rest
unfolding laid fed_by is_white_lem char_bytes one_octet
hats_laid rest = refl

pub tail-type : {space more datatype iri : List ℕ} → grammar.White space → grammar.White more → grammar.IRIREF datatype iri →
    tail_bytes (space ++ hatted more datatype) ≡ mark_bytes (grammar.Sort.typed iri)
unfolding mark_bytes
tail-type {space = space} {more = more} {datatype = datatype} {iri = iri} w u g =
    let e : laid false 0 0 (space ++ hatted more datatype) ≡ 0x5E ∷ 0x5E ∷ 0x3C ∷ (text_bytes iri ++ (0x3E ∷ []))
    = white_laid w (hatted more datatype) ∙ hats_laid (more ++ datatype) ∙ ap (λ (l : List ℕ). 0x5E ∷ 0x5E ∷ l) (white_laid u datatype ∙ iri-whole_laid g) in
    rw (e, same-mark iri (iriref-chars g)) refl

-- ---- terms

name_text : {front iri : List ℕ} → grammar.IRIREF front iri → (rest : List ℕ) → laid_text (source 0 (front ++ rest) rest rest) ≡ text_bytes iri
unfolding laid_text
name_text {front = front} d rest = ap (λ (l : List ℕ). laid false 0 0 (inner l)) (up-to front rest) ∙ iri-inner_laid d

blank-text : {front label : List ℕ} → grammar.BLANK front label → (rest : List ℕ) → laid_text (source 1 (front ++ rest) rest rest) ≡ text_bytes label
unfolding laid_text
blank-text (grammar.BLANK.blank {label = label} d) rest = ap (λ (l : List ℕ). laid false 0 0 (drop 2 l)) (up-to (0x5F ∷ 0x3A ∷ label) rest) ∙ plain-laid label (label-plain d)

-- a string, and what stands behind it
literal-text : {front chars : List ℕ} → grammar.STRING front chars → (behind tail : List ℕ) (sort : grammar.Sort) →
    tail_bytes (up_to behind tail) ≡ mark_bytes sort → laid_text (source 2 (front ++ behind) behind tail) ≡ text_of_term (grammar.Term.literal chars sort)
unfolding laid_text text_of_term
literal-text {front = front} {chars = chars} d behind tail sort e =
    ap (λ (l : List ℕ). laid true 0 0 l ++ tail_bytes (up_to behind tail)) (up-to front behind)
    ∙ ap (λ (l : List ℕ). laid true 0 0 front ++ l) e
    ∙ ap (λ (l : List ℕ). l ++ mark_bytes sort) (string-whole_laid d)
    ∙ ap (λ (l : List ℕ). 0x22 ∷ l) (append_assoc (canonical_bytes chars) (0x22 ∷ []) (mark_bytes sort))

none-text : (rest : List ℕ) → tail_bytes (up_to rest rest) ≡ mark_bytes grammar.Sort.plain
unfolding mark_bytes
none-text rest = ap tail_bytes (up-to [] rest) ∙ nothing-behind

pub shape_laid : {s : Source} (h : Shape s) → laid_text s ≡ text_of_term (term_of h)
unfolding text_of_term
shape_laid (a-name rest d is) = ap laid_text is ∙ name_text d rest
shape_laid (a-blank rest d is) = ap laid_text is ∙ blank-text d rest
shape_laid (bare rest d is) = ap laid_text is ∙ literal-text d rest rest grammar.Sort.plain (none-text rest)
shape_laid (tagged {space = space} {tag = tag} {language = language} rest d w g is) =
    ap laid_text is
    ∙ literal-text d (space ++ (tag ++ rest)) rest (grammar.Sort.tagged language)
    (ap (λ (l : List ℕ). tail_bytes (up_to l rest)) (sym (append_assoc space tag rest)) ∙ ap tail_bytes (up-to (space ++ tag) rest) ∙ tail-tag w g)
shape_laid (typed {space = space} {more = more} {datatype = datatype} {iri = iri} rest d w u g is) =
    let joined : space ++ hatted more (datatype ++ rest) ≡ (space ++ hatted more datatype) ++ rest
    = ap (λ (l : List ℕ). space ++ (0x5E ∷ 0x5E ∷ l)) (sym (append_assoc more datatype rest)) ∙ sym (append_assoc space (hatted more datatype) rest) in
    ap laid_text is
    ∙ literal-text d (space ++ hatted more (datatype ++ rest)) rest (grammar.Sort.typed iri)
    (ap (λ (l : List ℕ). tail_bytes (up_to l rest)) joined ∙ ap tail_bytes (up-to (space ++ hatted more datatype) rest) ∙ tail-type w u g)

-- what is laid from the source of a term is the text of what it means
pub laid-text : (cs : List ℕ) → (source_of cs).sort ≤ 2 → laid_text (source_of cs) ≡ text_of_term (meant_by (source_of cs))
laid-text cs small = let h = shape_of cs small in shape_laid h ∙ ap text_of_term (sym (shape_meant h))
