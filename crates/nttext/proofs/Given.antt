-- What the sources of IRIs and strings give: their characters, and each is one. Assumes nothing.
use mathlib.Core.Path.{◌≡◌, refl, ap, ◌∙◌}
use mathlib.Core.Bool.{true, false}
use mathlib.Core.List.{List, ◌∷◌, ◌++◌, append_assoc}
use Prim.Native.Nat.{ℕ}
use lib.Dec.{eqb}
use Rattle.utf8.specs.Characters.{is_character_lem}
use Rattle.utf8.specs.Texts.{AllCharacters}
use Rattle.ntline.specs.Classes.{is_iri_char_lem, is_string_char}
use Rattle.ntline.specs.Grammar as grammar
use Rattle.ntline.specs.Escapes.{resolved}
use Rattle.ntline.proofs.Bools.{differs}
use Rattle.ntline.proofs.Resolving.{iri-character, string-slash, string-character, raw-resolved, uchar-resolved, echar-resolved}
use Rattle.nttext.proofs.Laying.{slash_barred}

pub iri-no_slash : (c : ℕ) → is_iri_char_lem c ≡ true → eqb c 0x5C ≡ false
iri-no_slash c ok = differs is_iri_char_lem c 0x5C slash_barred ok

pub string-no_slash : (c : ℕ) → is_string_char c ≡ true → eqb c 0x5C ≡ false
string-no_slash c ok = differs is_string_char c 0x5C string-slash ok

uchar-char : {escape : List ℕ} {c : ℕ} → grammar.UCHAR escape c → is_character_lem c ≡ true
uchar-char (grammar.UCHAR.short d ok) = ok
uchar-char (grammar.UCHAR.long d ok) = ok

echar-char : {escape : List ℕ} {c : ℕ} → grammar.ECHAR escape c → is_character_lem c ≡ true
unfolding is_character_lem
echar-char grammar.ECHAR.tab = refl
echar-char grammar.ECHAR.backspace = refl
echar-char grammar.ECHAR.newline = refl
echar-char grammar.ECHAR.return = refl
echar-char grammar.ECHAR.formfeed = refl
echar-char grammar.ECHAR.quote = refl
echar-char grammar.ECHAR.apostrophe = refl
echar-char grammar.ECHAR.backslash = refl

pub iri-chars : {source iri : List ℕ} → grammar.IriChars source iri → AllCharacters iri
iri-chars grammar.IriChars.none = tt
iri-chars (grammar.IriChars.raw {c = c} ok d) = (iri-character c ok, iri-chars d)
iri-chars (grammar.IriChars.uchar {c = c} u ok d is) = (iri-character c ok, iri-chars d)

pub iriref-chars : {source iri : List ℕ} → grammar.IRIREF source iri → AllCharacters iri
iriref-chars (grammar.IRIREF.iriref d abs is) = iri-chars d

pub string-chars : {source chars : List ℕ} → grammar.StringChars source chars → AllCharacters chars
string-chars grammar.StringChars.none = tt
string-chars (grammar.StringChars.raw {c = c} ok d) = (string-character c ok, string-chars d)
string-chars (grammar.StringChars.echar x d is) = (echar-char x, string-chars d)
string-chars (grammar.StringChars.uchar u d is) = (uchar-char u, string-chars d)

-- with more behind them
pub iri-before : {source iri : List ℕ} → grammar.IriChars source iri → (rest : List ℕ) → resolved 0 0 (source ++ rest) ≡ iri ++ resolved 0 0 rest
iri-before grammar.IriChars.none rest = refl
iri-before (grammar.IriChars.raw {c = c} {source = s} ok d) rest =
    raw-resolved c (s ++ rest) (iri-no_slash c ok) (iri-character c ok) ∙ ap (λ (l : List ℕ). c ∷ l) (iri-before d rest)
iri-before (grammar.IriChars.uchar {c = c} {escape = e} {source = s} u ok d is) rest =
    ap (λ (l : List ℕ). resolved 0 0 (l ++ rest)) is ∙ ap (resolved 0 0) (append_assoc e s rest) ∙ uchar-resolved u (s ++ rest) ∙ ap (λ (l : List ℕ). c ∷ l) (iri-before d rest)

pub string-before : {source chars : List ℕ} → grammar.StringChars source chars → (rest : List ℕ) → resolved 0 0 (source ++ rest) ≡ chars ++ resolved 0 0 rest
string-before grammar.StringChars.none rest = refl
string-before (grammar.StringChars.raw {c = c} {source = s} ok d) rest =
    raw-resolved c (s ++ rest) (string-no_slash c ok) (string-character c ok) ∙ ap (λ (l : List ℕ). c ∷ l) (string-before d rest)
string-before (grammar.StringChars.echar {c = c} {escape = e} {source = s} x d is) rest =
    ap (λ (l : List ℕ). resolved 0 0 (l ++ rest)) is ∙ ap (resolved 0 0) (append_assoc e s rest) ∙ echar-resolved x (s ++ rest) ∙ ap (λ (l : List ℕ). c ∷ l) (string-before d rest)
string-before (grammar.StringChars.uchar {c = c} {escape = e} {source = s} u d is) rest =
    ap (λ (l : List ℕ). resolved 0 0 (l ++ rest)) is ∙ ap (resolved 0 0) (append_assoc e s rest) ∙ uchar-resolved u (s ++ rest) ∙ ap (λ (l : List ℕ). c ∷ l) (string-before d rest)
