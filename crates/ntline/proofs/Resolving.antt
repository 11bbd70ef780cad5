-- A source of the grammar is resolved to the characters that it means. Assumes nothing.
use mathlib.Core.Path.{◌≡◌, refl, ap, ◌∙◌}
use mathlib.Core.Bool.{Bool, true, false, cond}
use mathlib.Core.List.{List, ◌∷◌, ◌++◌}
use Prim.Native.Nat.{ℕ}
use native.Mathlib.Omega.{arith}
use lib.Dec.{eqb}
use Rattle.utf8.specs.Characters.{is_character_lem}
use Rattle.utf8.proofs.Judged.{and_left}
use Rattle.ntline.specs.Classes.{is_iri_char_lem, is_barred, is_string_char}
use Rattle.ntline.specs.Grammar.{UCHAR, ECHAR, IriChars, StringChars}
use Rattle.ntline.specs.Escapes.{part, echar_of, opened_by, fed_by, resolved}
use Rattle.ntline.proofs.Bools.{differs}
use Rattle.ntline.proofs.Digits.{digits_given, not-part}

abbrev gives : ℕ → List ℕ → List ℕ
gives c rest = c ∷ resolved 0 0 rest

resolved-law : (left value h : ℕ) (rest : List ℕ) → (left ≡ 0 → ⊥) → (left ≡ 9 → ⊥) →
    resolved left value (h ∷ rest)
    ≡ cond (eqb (fed_by left value h).out part) (resolved (fed_by left value h).left (fed_by left value h).value rest) (gives (fed_by left value h).out rest)
unfolding resolved
resolved-law left value h rest some early = by_part (eqb (fed_by left value h).out part)
  where
    by_part : (m : Bool) →
        cond m
        (resolved (cond m (fed_by left value h).left 0) (cond m (fed_by left value h).value 0) rest)
        ((fed_by left value h).out ∷ resolved (cond m (fed_by left value h).left 0) (cond m (fed_by left value h).value 0) rest)
        ≡ cond m (resolved (fed_by left value h).left (fed_by left value h).value rest) ((fed_by left value h).out ∷ resolved 0 0 rest)
    by_part true = refl
    by_part false = refl

pub uchar-resolved : {escape : List ℕ} {c : ℕ} → UCHAR escape c → (rest : List ℕ) → resolved 0 0 (escape ++ rest) ≡ c ∷ resolved 0 0 rest
unfolding resolved fed_by opened_by
uchar-resolved (UCHAR.short {hs = hs} d char) rest = digits_given resolved gives resolved-law d (omega arith) char rest
uchar-resolved (UCHAR.long {hs = hs} d char) rest = digits_given resolved gives resolved-law d (omega arith) char rest

-- a character that is no backslash, by itself
pub raw-resolved : (c : ℕ) (rest : List ℕ) → eqb c 0x5C ≡ false → is_character_lem c ≡ true → resolved 0 0 (c ∷ rest) ≡ c ∷ resolved 0 0 rest
unfolding resolved fed_by
raw-resolved c rest plain char = rw (plain, not-part c char, not-part c char) refl

barred_slash : is_iri_char_lem 0x5C ≡ false
unfolding is_iri_char_lem is_barred is_character_lem
barred_slash = refl

pub iri-character : (c : ℕ) → is_iri_char_lem c ≡ true → is_character_lem c ≡ true
unfolding is_iri_char_lem
iri-character c ok = and_left (is_character_lem c) _ ok

pub string-slash : is_string_char 0x5C ≡ false
unfolding is_string_char is_character_lem
string-slash = refl

pub string-character : (c : ℕ) → is_string_char c ≡ true → is_character_lem c ≡ true
unfolding is_string_char
string-character c ok = and_left (is_character_lem c) _ ok

pub iri-resolved : {source iri : List ℕ} → IriChars source iri → resolved 0 0 source ≡ iri
unfolding resolved
iri-resolved IriChars.none = refl
iri-resolved (IriChars.raw {c = c} {source = s} ok d) =
    raw-resolved c s (differs is_iri_char_lem c 0x5C barred_slash ok) (iri-character c ok) ∙ ap (λ (l : List ℕ). c ∷ l) (iri-resolved d)
iri-resolved (IriChars.uchar {c = c} {escape = e} {source = s} u ok d is) =
    ap (resolved 0 0) is ∙ uchar-resolved u s ∙ ap (λ (l : List ℕ). c ∷ l) (iri-resolved d)

pub echar-resolved : {escape : List ℕ} {c : ℕ} → ECHAR escape c → (rest : List ℕ) → resolved 0 0 (escape ++ rest) ≡ c ∷ resolved 0 0 rest
unfolding resolved fed_by opened_by echar_of
echar-resolved ECHAR.tab rest = refl
echar-resolved ECHAR.backspace rest = refl
echar-resolved ECHAR.newline rest = refl
echar-resolved ECHAR.return rest = refl
echar-resolved ECHAR.formfeed rest = refl
echar-resolved ECHAR.quote rest = refl
echar-resolved ECHAR.apostrophe rest = refl
echar-resolved ECHAR.backslash rest = refl

pub string-resolved : {source chars : List ℕ} → StringChars source chars → resolved 0 0 source ≡ chars
unfolding resolved
string-resolved StringChars.none = refl
string-resolved (StringChars.raw {c = c} {source = s} ok d) =
    raw-resolved c s (differs is_string_char c 0x5C string-slash ok) (string-character c ok) ∙ ap (λ (l : List ℕ). c ∷ l) (string-resolved d)
string-resolved (StringChars.echar {c = c} {escape = e} {source = s} x d is) =
    ap (resolved 0 0) is ∙ echar-resolved x s ∙ ap (λ (l : List ℕ). c ∷ l) (string-resolved d)
string-resolved (StringChars.uchar {c = c} {escape = e} {source = s} u d is) =
    ap (resolved 0 0) is ∙ uchar-resolved u s ∙ ap (λ (l : List ℕ). c ∷ l) (string-resolved d)
