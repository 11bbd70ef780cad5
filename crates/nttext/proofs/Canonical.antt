-- Every term that the grammar has can be written in canonical form: a source whose bytes are its text with its marks, of the same term
-- (N16). Assumes nothing.
use mathlib.Core.Path.{◌≡◌, refl, sym, ap, subst, ◌∙◌}
use mathlib.Core.Bool.{Bool, true, false}
use mathlib.Core.List.{List, [], ◌∷◌, ◌++◌, append_assoc, append-nil}
use Prim.Native.Nat.{ℕ}
use lib.Dec.{eqb}
use borrow.Author.Tests.{eqb-true}
use Rattle.utf8.specs.Characters.{is_character_lem, one_octet, char_bytes, text_bytes}
use Rattle.utf8.specs.Texts.{AllCharacters}
use Rattle.names.specs.Entering.{same_text_lem}
use Rattle.ntwrite.specs.Written.{marked}
use Rattle.ntline.specs.Classes.{is_string_char}
use Rattle.ntline.specs.Grammar as grammar
use Rattle.nttext.specs.Texts.{canonical, canonical_bytes, xsd_string, mark_bytes, text_of_term, sort_of_term, as_sort, as_term}
use Rattle.nttext.proofs.Given.{string-chars}

pub text-append : (xs ys : List ℕ) → text_bytes (xs ++ ys) ≡ text_bytes xs ++ text_bytes ys
unfolding text_bytes
text-append [] ys = refl
text-append (x ∷ xs) ys = ap (λ (l : List ℕ). char_bytes x ++ l) (text-append xs ys) ∙ sym (append_assoc (char_bytes x) (text_bytes xs) (text_bytes ys))

-- ---- the characters of a string

pub record Spelt (chars : List ℕ) : Type 0 where
  pub source : List ℕ
  pub chars-are : grammar.StringChars source chars
  pub bytes_are : text_bytes source ≡ canonical_bytes chars

spelt_none : Spelt []
unfolding text_bytes canonical_bytes
spelt_none = record { source = []; chars-are = grammar.StringChars.none; bytes_are = refl }

spelt_quote : {chars : List ℕ} → Spelt chars → Spelt (0x22 ∷ chars)
unfolding text_bytes char_bytes one_octet canonical_bytes canonical
spelt_quote r = record {
  source = 0x5C ∷ 0x22 ∷ r.source;
  chars-are = grammar.StringChars.echar grammar.ECHAR.quote r.chars-are refl;
  bytes_are = ap (λ (l : List ℕ). 0x5C ∷ 0x22 ∷ l) r.bytes_are;
}

spelt_slash : {chars : List ℕ} → Spelt chars → Spelt (0x5C ∷ chars)
unfolding text_bytes char_bytes one_octet canonical_bytes canonical
spelt_slash r = record {
  source = 0x5C ∷ 0x5C ∷ r.source;
  chars-are = grammar.StringChars.echar grammar.ECHAR.backslash r.chars-are refl;
  bytes_are = ap (λ (l : List ℕ). 0x5C ∷ 0x5C ∷ l) r.bytes_are;
}

spelt_lf : {chars : List ℕ} → Spelt chars → Spelt (0xA ∷ chars)
unfolding text_bytes char_bytes one_octet canonical_bytes canonical
spelt_lf r = record {
  source = 0x5C ∷ 0x6E ∷ r.source;
  chars-are = grammar.StringChars.echar grammar.ECHAR.newline r.chars-are refl;
  bytes_are = ap (λ (l : List ℕ). 0x5C ∷ 0x6E ∷ l) r.bytes_are;
}

spelt_cr : {chars : List ℕ} → Spelt chars → Spelt (0xD ∷ chars)
unfolding text_bytes char_bytes one_octet canonical_bytes canonical
spelt_cr r = record {
  source = 0x5C ∷ 0x72 ∷ r.source;
  chars-are = grammar.StringChars.echar grammar.ECHAR.return r.chars-are refl;
  bytes_are = ap (λ (l : List ℕ). 0x5C ∷ 0x72 ∷ l) r.bytes_are;
}

raw-char : (c : ℕ) → is_character_lem c ≡ true → eqb c 0x22 ≡ false → eqb c 0x5C ≡ false → eqb c 0xA ≡ false → eqb c 0xD ≡ false → is_string_char c ≡ true
unfolding is_string_char
raw-char c ok x y z w = rw (ok, x, y, z, w) refl

raw-bytes : (c : ℕ) → eqb c 0x22 ≡ false → eqb c 0x5C ≡ false → eqb c 0xA ≡ false → eqb c 0xD ≡ false → char_bytes c ≡ canonical c
unfolding canonical
raw-bytes c x y z w = rw (x, y, z, w) refl

spelt_raw : (c : ℕ) {chars : List ℕ} → Spelt chars → is_string_char c ≡ true → char_bytes c ≡ canonical c → Spelt (c ∷ chars)
unfolding text_bytes canonical_bytes
spelt_raw c {chars = chars} r ok e = record {
  source = c ∷ r.source;
  chars-are = grammar.StringChars.raw ok r.chars-are;
  bytes_are = ap (λ (l : List ℕ). char_bytes c ++ l) r.bytes_are ∙ ap (λ (l : List ℕ). l ++ canonical_bytes chars) e;
}

spelt_on : (c : ℕ) (chars : List ℕ) → is_character_lem c ≡ true → Spelt chars →
    (x : Bool) → eqb c 0x22 ≡ x → (y : Bool) → eqb c 0x5C ≡ y → (z : Bool) → eqb c 0xA ≡ z → (w : Bool) → eqb c 0xD ≡ w → Spelt (c ∷ chars)
spelt_on c chars ok r true e y f z g w h = subst (λ (n : ℕ). Spelt (n ∷ chars)) (sym (eqb-true c 0x22 e)) (spelt_quote r)
spelt_on c chars ok r false e true f z g w h = subst (λ (n : ℕ). Spelt (n ∷ chars)) (sym (eqb-true c 0x5C f)) (spelt_slash r)
spelt_on c chars ok r false e false f true g w h = subst (λ (n : ℕ). Spelt (n ∷ chars)) (sym (eqb-true c 0xA g)) (spelt_lf r)
spelt_on c chars ok r false e false f false g true h = subst (λ (n : ℕ). Spelt (n ∷ chars)) (sym (eqb-true c 0xD h)) (spelt_cr r)
spelt_on c chars ok r false e false f false g false h = spelt_raw c r (raw-char c ok e f g h) (raw-bytes c e f g h)

pub spelt : (chars : List ℕ) → AllCharacters chars → Spelt chars
spelt [] all = spelt_none
spelt (c ∷ chars) all =
    spelt_on c chars all.0 (spelt chars all.1) (eqb c 0x22) refl (eqb c 0x5C) refl (eqb c 0xA) refl (eqb c 0xD) refl

-- ---- terms

pub record Twin (t : grammar.Term) : Type 0 where
  pub source : List ℕ
  pub has : grammar.Object source (as_term t)
  pub written : text_bytes source ≡ marked (sort_of_term t) (text_of_term t)

raw-iri : {source iri : List ℕ} → grammar.IriChars source iri → grammar.IriChars iri iri
raw-iri grammar.IriChars.none = grammar.IriChars.none
raw-iri (grammar.IriChars.raw ok d) = grammar.IriChars.raw ok (raw-iri d)
raw-iri (grammar.IriChars.uchar u ok d is) = grammar.IriChars.raw ok (raw-iri d)

abbrev angled : List ℕ → List ℕ
angled iri = 0x3C ∷ (iri ++ (0x3E ∷ []))

pub raw-iriref : {source iri : List ℕ} → grammar.IRIREF source iri → grammar.IRIREF (angled iri) iri
raw-iriref (grammar.IRIREF.iriref d abs is) = grammar.IRIREF.iriref (raw-iri d) abs refl

angled_bytes : (iri : List ℕ) → text_bytes (angled iri) ≡ 0x3C ∷ (text_bytes iri ++ (0x3E ∷ []))
unfolding text_bytes char_bytes one_octet
angled_bytes iri = ap (λ (l : List ℕ). 0x3C ∷ l) (text-append iri (0x3E ∷ []))

name_twin : {source iri : List ℕ} → grammar.IRIREF source iri → Twin (grammar.Term.name iri)
unfolding as_term text_of_term sort_of_term marked
name_twin {iri = iri} d = record { source = angled iri; has = grammar.Object.iri (raw-iriref d); written = angled_bytes iri }

blank-twin : {source label : List ℕ} → grammar.BLANK source label → Twin (grammar.Term.blank label)
unfolding as_term text_of_term sort_of_term marked text_bytes char_bytes one_octet
blank-twin (grammar.BLANK.blank {label = label} d) =
    record { source = 0x5F ∷ 0x3A ∷ label; has = grammar.Object.label (grammar.BLANK.blank d); written = refl }

abbrev quoted : {chars : List ℕ} → Spelt chars → List ℕ
quoted r = 0x22 ∷ (r.source ++ (0x22 ∷ []))

quoted_string : {chars : List ℕ} (r : Spelt chars) → grammar.STRING (quoted r) chars
quoted_string r = grammar.STRING.string r.chars-are refl

quoted_bytes : {chars : List ℕ} (r : Spelt chars) → text_bytes (quoted r) ≡ 0x22 ∷ (canonical_bytes chars ++ (0x22 ∷ []))
unfolding text_bytes char_bytes one_octet
quoted_bytes r = ap (λ (l : List ℕ). 0x22 ∷ l) (text-append r.source (0x22 ∷ []) ∙ ap (λ (l : List ℕ). l ++ (0x22 ∷ [])) r.bytes_are)

-- a string and a mark behind it
literal-twin : {chars : List ℕ} (r : Spelt chars) (sort : grammar.Sort) (mark : List ℕ) → grammar.Literal (quoted r ++ mark) (grammar.Term.literal chars (as_sort sort)) →
    text_bytes mark ≡ mark_bytes sort → Twin (grammar.Term.literal chars sort)
unfolding as_term text_of_term sort_of_term marked
literal-twin {chars = chars} r sort mark d e = record {
  source = quoted r ++ mark;
  has = grammar.Object.lit d;
  written =
      text-append (quoted r) mark
      ∙ ap (λ (l : List ℕ). l ++ text_bytes mark) (quoted_bytes r)
      ∙ ap (λ (l : List ℕ). 0x22 ∷ l) (append_assoc (canonical_bytes chars) (0x22 ∷ []) (text_bytes mark))
      ∙ ap (λ (l : List ℕ). 0x22 ∷ (canonical_bytes chars ++ (0x22 ∷ l))) e;
}

plain-literal : {chars : List ℕ} (r : Spelt chars) → grammar.Literal (quoted r ++ []) (grammar.Term.literal chars grammar.Sort.plain)
plain-literal {chars = chars} r = subst (λ (l : List ℕ). grammar.Literal l (grammar.Term.literal chars grammar.Sort.plain)) (sym (append-nil (quoted r))) (grammar.Literal.bare (quoted_string r))

no_bytes : text_bytes [] ≡ []
unfolding text_bytes
no_bytes = refl

plain-twin : {chars : List ℕ} → Spelt chars → Twin (grammar.Term.literal chars grammar.Sort.plain)
unfolding as_sort mark_bytes
plain-twin r = literal-twin r grammar.Sort.plain [] (plain-literal r) no_bytes

tag_bytes : {tag language : List ℕ} → grammar.LANGTAG tag language → text_bytes tag ≡ 0x40 ∷ text_bytes language
unfolding text_bytes char_bytes one_octet
tag_bytes (grammar.LANGTAG.langtag e d) = refl

tag_twin : {chars tag language : List ℕ} → Spelt chars → grammar.LANGTAG tag language → Twin (grammar.Term.literal chars (grammar.Sort.tagged language))
unfolding as_sort mark_bytes
tag_twin {tag = tag} {language = language} r g =
    literal-twin r (grammar.Sort.tagged language) tag (grammar.Literal.with_tag (quoted_string r) grammar.White.none g refl) (tag_bytes g)

hats_bytes : (iri : List ℕ) → text_bytes (0x5E ∷ 0x5E ∷ angled iri) ≡ 0x5E ∷ 0x5E ∷ 0x3C ∷ (text_bytes iri ++ (0x3E ∷ []))
unfolding text_bytes char_bytes one_octet
hats_bytes iri = ap (λ (l : List ℕ). 0x5E ∷ 0x5E ∷ l) (angled_bytes iri)

xsd_mark_lem : (iri : List ℕ) → same_text_lem iri xsd_string ≡ true → text_bytes [] ≡ mark_bytes (grammar.Sort.typed iri)
unfolding mark_bytes text_bytes
xsd_mark_lem iri e = rw e refl

other-mark : (iri : List ℕ) → same_text_lem iri xsd_string ≡ false → text_bytes (0x5E ∷ 0x5E ∷ angled iri) ≡ mark_bytes (grammar.Sort.typed iri)
unfolding mark_bytes
other-mark iri e = rw e (hats_bytes iri)

xsd_sort : (iri : List ℕ) → same_text_lem iri xsd_string ≡ true → grammar.Sort.plain ≡ as_sort (grammar.Sort.typed iri)
unfolding as_sort
xsd_sort iri e = rw e refl

other-sort : (iri : List ℕ) → same_text_lem iri xsd_string ≡ false → grammar.Sort.typed iri ≡ as_sort (grammar.Sort.typed iri)
unfolding as_sort
other-sort iri e = rw e refl

type-twin : {chars source iri : List ℕ} → Spelt chars → grammar.IRIREF source iri → Twin (grammar.Term.literal chars (grammar.Sort.typed iri))
type-twin {chars = chars} {iri = iri} r g = which (same_text_lem iri xsd_string) refl
  where
    which : (x : Bool) → same_text_lem iri xsd_string ≡ x → Twin (grammar.Term.literal chars (grammar.Sort.typed iri))
    which true e =
        literal-twin r (grammar.Sort.typed iri) []
        (subst (λ (s : grammar.Sort). grammar.Literal (quoted r ++ []) (grammar.Term.literal chars s)) (xsd_sort iri e) (plain-literal r))
        (xsd_mark_lem iri e)
    which false e =
        literal-twin r (grammar.Sort.typed iri) (0x5E ∷ 0x5E ∷ angled iri)
        (subst (λ (s : grammar.Sort). grammar.Literal (quoted r ++ (0x5E ∷ 0x5E ∷ angled iri)) (grammar.Term.literal chars s)) (other-sort iri e)
        (grammar.Literal.with_type (quoted_string r) grammar.White.none grammar.White.none (raw-iriref g) refl))
        (other-mark iri e)

string-spelt : {source chars : List ℕ} → grammar.STRING source chars → Spelt chars
string-spelt (grammar.STRING.string {chars = chars} d is) = spelt chars (string-chars d)

pub twin : {source : List ℕ} {t : grammar.Term} → grammar.Object source t → Twin t
twin (grammar.Object.iri d) = name_twin d
twin (grammar.Object.label d) = blank-twin d
twin (grammar.Object.lit (grammar.Literal.bare d)) = plain-twin (string-spelt d)
twin (grammar.Object.lit (grammar.Literal.with_tag d w g whole)) = tag_twin (string-spelt d) g
twin (grammar.Object.lit (grammar.Literal.with_type d w u g whole)) = type-twin (string-spelt d) g
