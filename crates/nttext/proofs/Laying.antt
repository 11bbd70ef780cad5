-- What is laid down from a source is the text of what it means. Assumes nothing.
use mathlib.Core.Path.{◌≡◌, refl, sym, ap, ◌∙◌}
use mathlib.Core.Bool.{Bool, true, false, cond}
use mathlib.Core.List.{List, [], ◌∷◌, ◌++◌, append_assoc}
use Prim.Native.Nat.{ℕ}
use native.Mathlib.Omega.{arith}
use lib.Dec.{eqb}
use borrow.Author.Tests.{ne_eqb}
use Rattle.utf8.specs.Characters.{is_character_lem, char_bytes, text_bytes}
use Rattle.ntline.specs.Classes.{is_white_lem, is_iri_char_lem, is_barred, is_string_char}
use Rattle.ntline.specs.Grammar.{UCHAR, ECHAR, IriChars, StringChars}
use Rattle.ntline.specs.Escapes.{part, echar_of, opened_by, fed_by}
use Rattle.ntline.proofs.Bools.{differs}
use Rattle.ntline.proofs.Digits.{digits_given, not-part}
use Rattle.ntline.proofs.Resolving.{iri-character, string-slash, string-character}
use Rattle.nttext.specs.Texts.{canonical, canonical_bytes}
use Rattle.nttext.specs.Laying.{laid}

module _ (quoted : Bool) where
  gives : ℕ → List ℕ → List ℕ
  gives c rest = canonical c ++ laid quoted 0 0 rest

  laid-law : (left value h : ℕ) (rest : List ℕ) → (left ≡ 0 → ⊥) → (left ≡ 9 → ⊥) →
      laid quoted left value (h ∷ rest)
      ≡ cond (eqb (fed_by left value h).out part) (laid quoted (fed_by left value h).left (fed_by left value h).value rest) (gives (fed_by left value h).out rest)
  unfolding laid gives
  laid-law left value h rest some early = rw (ne_eqb left 0 some) (by_part (eqb (fed_by left value h).out part))
    where
      by_part : (m : Bool) →
          cond m [] (canonical (fed_by left value h).out) ++ laid quoted (cond m (fed_by left value h).left 0) (cond m (fed_by left value h).value 0) rest
          ≡ cond m (laid quoted (fed_by left value h).left (fed_by left value h).value rest) (canonical (fed_by left value h).out ++ laid quoted 0 0 rest)
      by_part true = refl
      by_part false = refl

  -- an escape lays its character in canonical form
  pub uchar-laid : {escape : List ℕ} {c : ℕ} → UCHAR escape c → (rest : List ℕ) → laid quoted 0 0 (escape ++ rest) ≡ canonical c ++ laid quoted 0 0 rest
  unfolding laid gives fed_by opened_by
  uchar-laid (UCHAR.short d char) rest = digits_given (laid quoted) gives laid-law d (omega arith) char rest
  uchar-laid (UCHAR.long d char) rest = digits_given (laid quoted) gives laid-law d (omega arith) char rest

-- in an IRI nothing needs an escape
barred : (x : ℕ) → is_iri_char_lem x ≡ false → (c : ℕ) → is_iri_char_lem c ≡ true → eqb c x ≡ false
barred x out c ok = differs is_iri_char_lem c x out ok

quote-barred : is_iri_char_lem 0x22 ≡ false
unfolding is_iri_char_lem is_barred is_character_lem
quote-barred = refl

pub slash_barred : is_iri_char_lem 0x5C ≡ false
unfolding is_iri_char_lem is_barred is_character_lem
slash_barred = refl

lf_barred : is_iri_char_lem 0xA ≡ false
unfolding is_iri_char_lem is_barred is_character_lem
lf_barred = refl

cr_barred : is_iri_char_lem 0xD ≡ false
unfolding is_iri_char_lem is_barred is_character_lem
cr_barred = refl

blank-barred : is_iri_char_lem 0x20 ≡ false
unfolding is_iri_char_lem is_barred is_character_lem
blank-barred = refl

tab-barred : is_iri_char_lem 0x9 ≡ false
unfolding is_iri_char_lem is_barred is_character_lem
tab-barred = refl

iri-canonical : (c : ℕ) → is_iri_char_lem c ≡ true → canonical c ≡ char_bytes c
unfolding canonical
iri-canonical c ok = rw (barred 0x22 quote-barred c ok, barred 0x5C slash_barred c ok, barred 0xA lf_barred c ok, barred 0xD cr_barred c ok) refl

iri-not_white : (c : ℕ) → is_iri_char_lem c ≡ true → is_white_lem c ≡ false
unfolding is_white_lem
iri-not_white c ok = rw (barred 0x20 blank-barred c ok, barred 0x9 tab-barred c ok) refl

iri-raw : (c : ℕ) (rest : List ℕ) → is_iri_char_lem c ≡ true → laid false 0 0 (c ∷ rest) ≡ char_bytes c ++ laid false 0 0 rest
unfolding laid fed_by
iri-raw c rest ok =
    let char = iri-character c ok in
    rw (barred 0x5C slash_barred c ok, not-part c char, not-part c char, iri-not_white c ok) refl

-- the inside of an IRIREF lays the IRI's bytes
pub iri-laid : {source iri : List ℕ} → IriChars source iri → (rest : List ℕ) → laid false 0 0 (source ++ rest) ≡ text_bytes iri ++ laid false 0 0 rest
unfolding text_bytes
iri-laid IriChars.none rest = refl
iri-laid (IriChars.raw {c = c} {source = s} {iri = iri} ok d) rest =
    iri-raw c (s ++ rest) ok
    ∙ ap (λ (l : List ℕ). char_bytes c ++ l) (iri-laid d rest)
    ∙ sym (append_assoc (char_bytes c) (text_bytes iri) (laid false 0 0 rest))
iri-laid (IriChars.uchar {c = c} {escape = e} {source = s} {iri = iri} u ok d is) rest =
    ap (λ (l : List ℕ). laid false 0 0 (l ++ rest)) is
    ∙ ap (laid false 0 0) (append_assoc e s rest)
    ∙ uchar-laid false u (s ++ rest)
    ∙ ap (λ (l : List ℕ). l ++ laid false 0 0 (s ++ rest)) (iri-canonical c ok)
    ∙ ap (λ (l : List ℕ). char_bytes c ++ l) (iri-laid d rest)
    ∙ sym (append_assoc (char_bytes c) (text_bytes iri) (laid false 0 0 rest))

string-quote : is_string_char 0x22 ≡ false
unfolding is_string_char is_character_lem
string-quote = refl

string-lf : is_string_char 0xA ≡ false
unfolding is_string_char is_character_lem
string-lf = refl

string-cr : is_string_char 0xD ≡ false
unfolding is_string_char is_character_lem
string-cr = refl

-- a raw character of a string is canonical as it stands
string-canonical : (c : ℕ) → is_string_char c ≡ true → canonical c ≡ char_bytes c
unfolding canonical
string-canonical c ok =
    rw (differs is_string_char c 0x22 string-quote ok, differs is_string_char c 0x5C string-slash ok, differs is_string_char c 0xA string-lf ok, differs is_string_char c 0xD string-cr ok) refl

string-raw : (c : ℕ) (rest : List ℕ) → is_string_char c ≡ true → laid true 0 0 (c ∷ rest) ≡ char_bytes c ++ laid true 0 0 rest
unfolding laid fed_by
string-raw c rest ok =
    let char = string-character c ok in
    rw (differs is_string_char c 0x5C string-slash ok, not-part c char, not-part c char) refl

echar-laid : {escape : List ℕ} {c : ℕ} → ECHAR escape c → (rest : List ℕ) → laid true 0 0 (escape ++ rest) ≡ canonical c ++ laid true 0 0 rest
unfolding laid fed_by opened_by echar_of
echar-laid ECHAR.tab rest = refl
echar-laid ECHAR.backspace rest = refl
echar-laid ECHAR.newline rest = refl
echar-laid ECHAR.return rest = refl
echar-laid ECHAR.formfeed rest = refl
echar-laid ECHAR.quote rest = refl
echar-laid ECHAR.apostrophe rest = refl
echar-laid ECHAR.backslash rest = refl

-- the inside of a string lays its canonical form
pub string-laid : {source chars : List ℕ} → StringChars source chars → (rest : List ℕ) → laid true 0 0 (source ++ rest) ≡ canonical_bytes chars ++ laid true 0 0 rest
unfolding canonical_bytes
string-laid StringChars.none rest = refl
string-laid (StringChars.raw {c = c} {source = s} {string = string} ok d) rest =
    string-raw c (s ++ rest) ok
    ∙ ap (λ (l : List ℕ). l ++ laid true 0 0 (s ++ rest)) (sym (string-canonical c ok))
    ∙ ap (λ (l : List ℕ). canonical c ++ l) (string-laid d rest)
    ∙ sym (append_assoc (canonical c) (canonical_bytes string) (laid true 0 0 rest))
string-laid (StringChars.echar {c = c} {escape = e} {source = s} {string = string} x d is) rest =
    ap (λ (l : List ℕ). laid true 0 0 (l ++ rest)) is
    ∙ ap (laid true 0 0) (append_assoc e s rest)
    ∙ echar-laid x (s ++ rest)
    ∙ ap (λ (l : List ℕ). canonical c ++ l) (string-laid d rest)
    ∙ sym (append_assoc (canonical c) (canonical_bytes string) (laid true 0 0 rest))
string-laid (StringChars.uchar {c = c} {escape = e} {source = s} {string = string} u d is) rest =
    ap (λ (l : List ℕ). laid true 0 0 (l ++ rest)) is
    ∙ ap (laid true 0 0) (append_assoc e s rest)
    ∙ uchar-laid true u (s ++ rest)
    ∙ ap (λ (l : List ℕ). canonical c ++ l) (string-laid d rest)
    ∙ sym (append_assoc (canonical c) (canonical_bytes string) (laid true 0 0 rest))
