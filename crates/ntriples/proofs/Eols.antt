-- A legal text holds no CR and no LF. Assumes nothing.
use mathlib.Core.Path.{◌≡◌, refl, sym, ap, ◌∙◌}
use mathlib.Core.Bool.{Bool, true, false, cond, true≢false}
use mathlib.Core.List.{List, [], ◌∷◌, ◌++◌}
use Prim.Native.Nat.{ℕ, zero, suc, ◌+◌, ◌/◌, ◌%◌, ◌≤◌}
use native.Mathlib.Omega.{arith}
use lib.Dec.{eqb, leb}
use borrow.Author.Tests.{eqb-false, ne_eqb}
use Rattle.ground.specs.Lists.{All}
use Rattle.utf8.specs.Characters.{is_character_lem, one_octet, two_octets, three_octets, four_octets, char_bytes, text_bytes}
use Rattle.ntline.specs.Classes.{is_alpha_lem, is_digit_lem, is_alnum_lem, is_barred, is_iri_char_lem, is_base, is_name_start, is_name_char_lem, is_label_start_lem}
use Rattle.ntline.specs.Grammar as grammar
use Rattle.names.specs.Entering.{same_text_lem}
use Rattle.ntwrite.specs.Written.{marked}
use Rattle.nttext.specs.Texts.{canonical, canonical_bytes, xsd_string, mark_bytes, text_of_term}
use Rattle.ntread.specs.Reading.{is_eol}

abbrev pub NoEol : List ℕ → Type 0
NoEol xs = All (λ x. is_eol x ≡ false) xs

not-eol : (x : ℕ) → (x ≡ 0xD → ⊥) → (x ≡ 0xA → ⊥) → is_eol x ≡ false
not-eol x d a = rw (ne_eqb x 0xD d, ne_eqb x 0xA a) refl

big : (x : ℕ) → 0xE ≤ x → is_eol x ≡ false
big x h = not-eol x (λ e. omega arith) (λ e. omega arith)

pub no_eol_append : (xs ys : List ℕ) → NoEol xs → NoEol ys → NoEol (xs ++ ys)
no_eol_append [] ys a b = b
no_eol_append (x ∷ xs) ys a b = (a.0, no_eol_append xs ys a.1 b)

-- ---- characters

char-no_eol : (c : ℕ) → is_eol c ≡ false → NoEol (char_bytes c)
unfolding char_bytes one_octet two_octets three_octets four_octets
char-no_eol c e = which (leb c 0x7F) refl (leb c 0x7FF) (leb c 0xFFFF)
  where
    which : (a : Bool) → leb c 0x7F ≡ a → (b d : Bool) → NoEol (cond a (one_octet c) (cond b (two_octets c) (cond d (three_octets c) (four_octets c))))
    which true q b d = (e, tt)
    which false q true d = (big (0xC0 + c / 64) (omega arith), (big (0x80 + c % 64) (omega arith), tt))
    which false q false true = (big (0xE0 + c / 4096) (omega arith), (big (0x80 + c / 64 % 64) (omega arith), (big (0x80 + c % 64) (omega arith), tt)))
    which false q false false =
        (big (0xF0 + c / 262144) (omega arith), (big (0x80 + c / 4096 % 64) (omega arith), (big (0x80 + c / 64 % 64) (omega arith), (big (0x80 + c % 64) (omega arith), tt))))

text-no_eol : (cs : List ℕ) → NoEol cs → NoEol (text_bytes cs)
unfolding text_bytes
text-no_eol [] h = tt
text-no_eol (c ∷ cs) h = no_eol_append (char_bytes c) (text_bytes cs) (char-no_eol c h.0) (text-no_eol cs h.1)

canonical-no_eol : (c : ℕ) → NoEol (canonical c)
unfolding canonical
canonical-no_eol c = which (eqb c 0x22) (eqb c 0x5C) (eqb c 0xA) refl (eqb c 0xD) refl
  where
    which : (a b d : Bool) → eqb c 0xA ≡ d → (e : Bool) → eqb c 0xD ≡ e →
        NoEol (cond a (0x5C ∷ 0x22 ∷ []) (cond b (0x5C ∷ 0x5C ∷ []) (cond d (0x5C ∷ 0x6E ∷ []) (cond e (0x5C ∷ 0x72 ∷ []) (char_bytes c)))))
    which true b d qd e qe = (refl, (refl, tt))
    which false true d qd e qe = (refl, (refl, tt))
    which false false true qd e qe = (refl, (refl, tt))
    which false false false qd true qe = (refl, (refl, tt))
    which false false false qd false qe = char-no_eol c (not-eol c (eqb-false c 0xD qe) (eqb-false c 0xA qd))

canonical-bytes_no_eol : (cs : List ℕ) → NoEol (canonical_bytes cs)
unfolding canonical_bytes
canonical-bytes_no_eol [] = tt
canonical-bytes_no_eol (c ∷ cs) = no_eol_append (canonical c) (canonical_bytes cs) (canonical-no_eol c) (canonical-bytes_no_eol cs)

-- ---- classes

class_no_eol : (P : ℕ → Bool) → P 0xD ≡ false → P 0xA ≡ false → (c : ℕ) → P c ≡ true → is_eol c ≡ false
class_no_eol P d a c h =
    not-eol c (λ e. true≢false (sym h ∙ ap P e ∙ d)) (λ e. true≢false (sym h ∙ ap P e ∙ a))

iri-char : (c : ℕ) → is_iri_char_lem c ≡ true → is_eol c ≡ false
unfolding is_iri_char_lem is_character_lem is_barred
iri-char c h = class_no_eol is_iri_char_lem refl refl c h

name_char : (c : ℕ) → is_name_char_lem c ≡ true → is_eol c ≡ false
unfolding is_name_char_lem is_name_start is_base is_alpha_lem is_digit_lem
name_char c h = class_no_eol is_name_char_lem refl refl c h

label-start : (c : ℕ) → is_label_start_lem c ≡ true → is_eol c ≡ false
unfolding is_label_start_lem is_name_start is_base is_alpha_lem is_digit_lem
label-start c h = class_no_eol is_label_start_lem refl refl c h

alpha : (c : ℕ) → is_alpha_lem c ≡ true → is_eol c ≡ false
unfolding is_alpha_lem
alpha c h = class_no_eol is_alpha_lem refl refl c h

alnum : (c : ℕ) → is_alnum_lem c ≡ true → is_eol c ≡ false
unfolding is_alnum_lem is_alpha_lem is_digit_lem
alnum c h = class_no_eol is_alnum_lem refl refl c h

-- ---- the grammar's terms

iri-chars : {source iri : List ℕ} → grammar.IriChars source iri → NoEol iri
iri-chars grammar.IriChars.none = tt
iri-chars (grammar.IriChars.raw {c = c} ok d) = (iri-char c ok, iri-chars d)
iri-chars (grammar.IriChars.uchar {c = c} u ok d is) = (iri-char c ok, iri-chars d)

iriref : {source iri : List ℕ} → grammar.IRIREF source iri → NoEol iri
iriref (grammar.IRIREF.iriref d abs is) = iri-chars d

label-end : {cs : List ℕ} → grammar.LabelEnd cs → NoEol cs
label-end (grammar.LabelEnd.last {c = c} e) = (name_char c e, tt)
label-end (grammar.LabelEnd.char {c = c} e d) = (name_char c e, label-end d)
label-end (grammar.LabelEnd.dot d) = (refl, label-end d)

label : {cs : List ℕ} → grammar.Label cs → NoEol cs
label (grammar.Label.one {c = c} e) = (label-start c e, tt)
label (grammar.Label.longer {c = c} e d) = (label-start c e, label-end d)

blank : {source chars : List ℕ} → grammar.BLANK source chars → NoEol chars
blank (grammar.BLANK.blank d) = label d

subtags : {cs : List ℕ} → grammar.Subtags cs → NoEol cs
subtags grammar.Subtags.none = tt
subtags (grammar.Subtags.char {c = c} e d) = (alnum c e, subtags d)
subtags (grammar.Subtags.minus {c = c} e d) = (refl, (alnum c e, subtags d))

tag : {cs : List ℕ} → grammar.Tag cs → NoEol cs
tag grammar.Tag.none = tt
tag (grammar.Tag.letter {c = c} e d) = (alpha c e, tag d)
tag (grammar.Tag.minus {c = c} e d) = (refl, (alnum c e, subtags d))

langtag : {source chars : List ℕ} → grammar.LANGTAG source chars → NoEol chars
langtag (grammar.LANGTAG.langtag {c = c} e d) = (alpha c e, tag d)

literal : (chars : List ℕ) (sort : grammar.Sort) → NoEol (mark_bytes sort) → NoEol (text_of_term (grammar.Term.literal chars sort))
unfolding text_of_term
literal chars sort m = (refl, no_eol_append (canonical_bytes chars) (0x22 ∷ mark_bytes sort) (canonical-bytes_no_eol chars) (refl, m))

typed_mark : (same : Bool) (iri : List ℕ) → NoEol iri → NoEol (cond same [] (0x5E ∷ 0x5E ∷ 0x3C ∷ (text_bytes iri ++ (0x3E ∷ []))))
typed_mark true iri h = tt
typed_mark false iri h = (refl, (refl, (refl, no_eol_append (text_bytes iri) (0x3E ∷ []) (text-no_eol iri h) (refl, tt))))

literal-text : {source : List ℕ} {t : grammar.Term} → grammar.Literal source t → NoEol (text_of_term t)
unfolding mark_bytes
literal-text (grammar.Literal.bare {chars = chars} d) = literal chars grammar.Sort.plain tt
literal-text (grammar.Literal.with_tag {chars = chars} {language = language} d w g is) =
    literal chars (grammar.Sort.tagged language) (refl, text-no_eol language (langtag g))
literal-text (grammar.Literal.with_type {chars = chars} {iri = iri} d w u g is) =
    literal chars (grammar.Sort.typed iri) (typed_mark (same_text_lem iri xsd_string) iri (iriref g))

pub object-text : {source : List ℕ} {t : grammar.Term} → grammar.Object source t → NoEol (text_of_term t)
unfolding text_of_term
object-text (grammar.Object.iri {chars = chars} d) = text-no_eol chars (iriref d)
object-text (grammar.Object.label {chars = chars} d) = text-no_eol chars (blank d)
object-text (grammar.Object.lit d) = literal-text d

-- and its marks hold none
pub marked-no_eol : (sort : ℕ) (text : List ℕ) → NoEol text → NoEol (marked sort text)
unfolding marked
marked-no_eol zero text h = no_eol_append ((60 ∷ []) ++ text) (62 ∷ []) (refl, h) (refl, tt)
marked-no_eol (suc zero) text h = (refl, (refl, h))
marked-no_eol (suc (suc sort)) text h = h
