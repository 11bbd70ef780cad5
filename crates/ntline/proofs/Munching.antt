-- The longest match, terminal by terminal: what the grammar has is found whole. Assumes nothing.
use mathlib.Core.Path.{◌≡◌, refl, ap, ◌∙◌}
use mathlib.Core.Bool.{Bool, true, false, cond, ◌&&◌, ◌||◌, false≢true}
use mathlib.Core.List.{List, [], ◌∷◌, ◌++◌, append_assoc}
use Prim.Native.Nat.{ℕ}
use native.Mathlib.Omega.{arith}
use lib.Dec.{eqb, ltb}
use borrow.Author.Tests.{ne_eqb}
use Rattle.utf8.specs.Characters.{is_character_lem}
use Rattle.utf8.proofs.Judged.{and_left, and_right}
use Rattle.ntline.specs.declared.escapes.Fed.{Fed}
use Rattle.ntline.specs.declared.lexing.State.{State}
use Rattle.ntline.specs.declared.lexing.State.TheVariants.{Dead, Dot, Hats, Iri, IriEnd, Quoted, QuotedEnd}
use Rattle.ntline.specs.Classes.{is_white_lem, is_alpha_lem, is_iri_char_lem, is_barred, is_string_char, is_scheme_char_lem}
use Rattle.ntline.specs.Grammar.{is_absolute, has_colon, UCHAR, ECHAR, IriChars, IRIREF, StringChars, STRING}
use Rattle.ntline.specs.Escapes.{part, echar_of, opened_by, fed_by}
use Rattle.ntline.specs.Lexing.{schemed, iri_goes, in_iri, quoted_goes, in_quoted, begun, step, kind_of, Token, token_is, munched, token_of, an_iri, a_string}
use Rattle.ntline.proofs.Bools.{second, differs}
use Rattle.ntline.proofs.Digits.{digits_given, not-part}
use Rattle.ntline.proofs.Resolving.{string-character, string-slash}

-- nothing more is found
pub munched-dead : (kind : ℕ) (rest cs : List ℕ) → munched Dead kind rest cs ≡ token_is kind rest
unfolding munched step kind_of
munched-dead kind rest [] = refl
munched-dead kind rest (c ∷ cs) = munched-dead kind rest cs

-- one character more, behind which no terminal ends
pub munched-on : (s t : State) (kind : ℕ) (rest : List ℕ) (c : ℕ) (cs : List ℕ) → step s c ≡ t → kind_of t ≡ 0 →
    munched s kind rest (c ∷ cs) ≡ munched t kind rest cs
unfolding munched
munched-on s t kind rest c cs e none = rw (e, none) refl

-- one character more, behind which one ends
pub munched-end : (s t : State) (kind : ℕ) (rest : List ℕ) (c : ℕ) (cs : List ℕ) (new : ℕ) → step s c ≡ t → kind_of t ≡ new → eqb new 0 ≡ false →
    munched s kind rest (c ∷ cs) ≡ munched t new cs cs
unfolding munched
munched-end s t kind rest c cs new e is some = rw (e, is, some) refl

pub over-iri : (kind : ℕ) (rest cs : List ℕ) → munched IriEnd kind rest cs ≡ token_is kind rest
unfolding munched step kind_of
over-iri kind rest [] = refl
over-iri kind rest (c ∷ cs) = munched-dead kind rest cs

pub over-quoted : (kind : ℕ) (rest cs : List ℕ) → munched QuotedEnd kind rest cs ≡ token_is kind rest
unfolding munched step kind_of
over-quoted kind rest [] = refl
over-quoted kind rest (c ∷ cs) = munched-dead kind rest cs

pub over-dot : (kind : ℕ) (rest cs : List ℕ) → munched Dot kind rest cs ≡ token_is kind rest
unfolding munched step kind_of
over-dot kind rest [] = refl
over-dot kind rest (c ∷ cs) = munched-dead kind rest cs

pub over-hats : (kind : ℕ) (rest cs : List ℕ) → munched Hats kind rest cs ≡ token_is kind rest
unfolding munched step kind_of
over-hats kind rest [] = refl
over-hats kind rest (c ∷ cs) = munched-dead kind rest cs

-- a function of a choice is the choice of its values
through : {A B : Type 0} (f : A → B) (b : Bool) (x y : A) → f (cond b x y) ≡ cond b (f x) (f y)
through f true x y = refl
through f false x y = refl

-- how far the scheme is, and that it will come to its colon
pub data Way : ℕ → List ℕ → Type 0 where
  before : {cs : List ℕ} → is_absolute cs ≡ true → Way 0 cs
  amid : {cs : List ℕ} → has_colon cs ≡ true → Way 1 cs
  behind : {cs : List ℕ} → Way 2 cs

record Gone (scheme c : ℕ) (cs : List ℕ) : Type 0 where
  fine : ltb (schemed scheme c) 3 ≡ true
  way : Way (schemed scheme c) cs

amid_gone : (c : ℕ) (cs : List ℕ) → (eqb c 0x3A || (is_scheme_char_lem c && has_colon cs)) ≡ true → (b : Bool) → eqb c 0x3A ≡ b → Gone 1 c cs
unfolding schemed
amid_gone c cs h true e = record { fine = rw e refl; way = rw e behind }
amid_gone c cs h false e =
    let both = second (eqb c 0x3A) (is_scheme_char_lem c && has_colon cs) e h in
    let char = and_left (is_scheme_char_lem c) (has_colon cs) both in
    record { fine = rw (e, char) refl; way = rw (e, char) (amid (and_right (is_scheme_char_lem c) (has_colon cs) both)) }

gone : {scheme c : ℕ} {cs : List ℕ} → Way scheme (c ∷ cs) → Gone scheme c cs
unfolding schemed is_absolute has_colon
gone {c = c} {cs = cs} (before h) =
    let letter = and_left (is_alpha_lem c) (has_colon cs) h in
    record { fine = rw letter refl; way = rw letter (amid (and_right (is_alpha_lem c) (has_colon cs) h)) }
gone {c = c} {cs = cs} (amid h) = amid_gone c cs h (eqb c 0x3A) refl
gone behind = record { fine = refl; way = behind }

barred_close : is_iri_char_lem 0x3E ≡ false
unfolding is_iri_char_lem is_barred is_character_lem
barred_close = refl

barred_slash : is_iri_char_lem 0x5C ≡ false
unfolding is_iri_char_lem is_barred is_character_lem
barred_slash = refl

barred_part : is_iri_char_lem part ≡ false
unfolding is_iri_char_lem is_barred is_character_lem
barred_part = refl

pub iri-raw : (scheme c : ℕ) → is_iri_char_lem c ≡ true → ltb (schemed scheme c) 3 ≡ true → step (Iri scheme 0 0) c ≡ Iri (schemed scheme c) 0 0
unfolding step in_iri iri_goes fed_by
iri-raw scheme c ok way =
    rw (differs is_iri_char_lem c 0x3E barred_close ok, differs is_iri_char_lem c 0x5C barred_slash ok, differs is_iri_char_lem c part barred_part ok, differs is_iri_char_lem c part barred_part ok, ok, way) refl

iri-goes_none : (scheme : ℕ) (f : Fed) → kind_of (iri_goes scheme f) ≡ 0
unfolding iri_goes kind_of
iri-goes_none scheme f = twice (eqb f.out part) (is_iri_char_lem f.out && ltb (schemed scheme f.out) 3)
  where
    twice : (a b : Bool) → kind_of (cond a (Iri scheme f.left f.value) (cond b (Iri (schemed scheme f.out) 0 0) Dead)) ≡ 0
    twice true b = refl
    twice false true = refl
    twice false false = refl

pub iri-feeds : (scheme left value h : ℕ) → (left ≡ 0 → ⊥) → (left ≡ 9 → ⊥) → step (Iri scheme left value) h ≡ iri_goes scheme (fed_by left value h)
unfolding step in_iri
iri-feeds scheme left value h some early = rw (ne_eqb left 0 some, ne_eqb left 9 early) refl

module _ (scheme kind : ℕ) (rest : List ℕ) where
  iri-go : ℕ → ℕ → List ℕ → Token
  iri-go left value cs = munched (Iri scheme left value) kind rest cs

  iri-done : ℕ → List ℕ → Token
  iri-done c cs = munched (cond (is_iri_char_lem c && ltb (schemed scheme c) 3) (Iri (schemed scheme c) 0 0) Dead) kind rest cs

  iri-law : (left value h : ℕ) (cs : List ℕ) → (left ≡ 0 → ⊥) → (left ≡ 9 → ⊥) →
      iri-go left value (h ∷ cs)
      ≡ cond (eqb (fed_by left value h).out part) (iri-go (fed_by left value h).left (fed_by left value h).value cs) (iri-done (fed_by left value h).out cs)
  unfolding iri-go iri-done iri_goes
  iri-law left value h cs some early =
      munched-on (Iri scheme left value) (iri_goes scheme (fed_by left value h)) kind rest h cs
      (iri-feeds scheme left value h some early) (iri-goes_none scheme (fed_by left value h))
      ∙ through (λ (t : State). munched t kind rest cs) (eqb (fed_by left value h).out part) _ _

  iri-uchar : {escape : List ℕ} {c : ℕ} → UCHAR escape c → is_iri_char_lem c ≡ true → ltb (schemed scheme c) 3 ≡ true → (cs : List ℕ) →
      munched (Iri scheme 0 0) kind rest (escape ++ cs) ≡ munched (Iri (schemed scheme c) 0 0) kind rest cs
  unfolding iri-go iri-done munched step in_iri iri_goes fed_by opened_by kind_of
  iri-uchar {c = c} (UCHAR.short d char) ok way cs =
      let both : (is_iri_char_lem c && ltb (schemed scheme c) 3) ≡ true = rw (ok, way) refl in
      digits_given iri-go iri-done iri-law d (omega arith) char cs
      ∙ ap (λ (b : Bool). munched (cond b (Iri (schemed scheme c) 0 0) Dead) kind rest cs) both
  iri-uchar {c = c} (UCHAR.long d char) ok way cs =
      let both : (is_iri_char_lem c && ltb (schemed scheme c) 3) ≡ true = rw (ok, way) refl in
      digits_given iri-go iri-done iri-law d (omega arith) char cs
      ∙ ap (λ (b : Bool). munched (cond b (Iri (schemed scheme c) 0 0) Dead) kind rest cs) both

pub iri-none : (scheme left value : ℕ) → kind_of (Iri scheme left value) ≡ 0
unfolding kind_of
iri-none scheme left value = refl

iri-closes : (kind : ℕ) (rest cs : List ℕ) → munched (Iri 2 0 0) kind rest (0x3E ∷ cs) ≡ token_is an_iri cs
unfolding munched step in_iri kind_of
iri-closes kind rest cs = over-iri an_iri cs cs

iri-inside : {source iri : List ℕ} → IriChars source iri → (scheme : ℕ) → Way scheme iri → (kind : ℕ) (rest cs : List ℕ) →
    munched (Iri scheme 0 0) kind rest (source ++ (0x3E ∷ cs)) ≡ token_is an_iri cs
unfolding is_absolute has_colon
iri-inside IriChars.none scheme (before h) kind rest cs = absurd (false≢true h)
iri-inside IriChars.none scheme (amid h) kind rest cs = absurd (false≢true h)
iri-inside IriChars.none scheme behind kind rest cs = iri-closes kind rest cs
iri-inside (IriChars.raw {c = c} {source = s} ok d) scheme w kind rest cs =
    munched-on (Iri scheme 0 0) (Iri (schemed scheme c) 0 0) kind rest c (s ++ (0x3E ∷ cs)) (iri-raw scheme c ok (gone w).fine) (iri-none (schemed scheme c) 0 0)
    ∙ iri-inside d (schemed scheme c) (gone w).way kind rest cs
iri-inside (IriChars.uchar {c = c} {escape = e} {source = s} u ok d is) scheme w kind rest cs =
    ap (λ (l : List ℕ). munched (Iri scheme 0 0) kind rest (l ++ (0x3E ∷ cs))) is
    ∙ ap (munched (Iri scheme 0 0) kind rest) (append_assoc e s (0x3E ∷ cs))
    ∙ iri-uchar scheme kind rest u ok (gone w).fine (s ++ (0x3E ∷ cs))
    ∙ iri-inside d (schemed scheme c) (gone w).way kind rest cs

-- IRIREF
pub iri-found : {source iri : List ℕ} → IRIREF source iri → (rest : List ℕ) → token_of (source ++ rest) ≡ token_is an_iri rest
unfolding token_of munched step begun is_white_lem kind_of
iri-found (IRIREF.iriref {inside = inside} {iri = iri} d abs is) rest =
    ap (λ (l : List ℕ). token_of (l ++ rest)) is
    ∙ ap (λ (l : List ℕ). token_of (0x3C ∷ l)) (append_assoc inside (0x3E ∷ []) rest)
    ∙ iri-inside d 0 (before abs) 0 (0x3C ∷ (inside ++ (0x3E ∷ rest))) rest

pub quoted_none : (left value : ℕ) → kind_of (Quoted left value) ≡ 0
unfolding kind_of
quoted_none left value = refl

string-close : is_string_char 0x22 ≡ false
unfolding is_string_char is_character_lem
string-close = refl

string-lf : is_string_char 0xA ≡ false
unfolding is_string_char is_character_lem
string-lf = refl

string-cr : is_string_char 0xD ≡ false
unfolding is_string_char is_character_lem
string-cr = refl

quoted_raw : (c : ℕ) → is_string_char c ≡ true → step (Quoted 0 0) c ≡ Quoted 0 0
unfolding step in_quoted quoted_goes fed_by
quoted_raw c ok =
    let char = string-character c ok in
    rw (
      differs is_string_char c 0x22 string-close ok,
      differs is_string_char c 0xA string-lf ok,
      differs is_string_char c 0xD string-cr ok,
      differs is_string_char c 0x5C string-slash ok,
      not-part c char,
      not-part c char,
      char,
    ) refl

quoted_goes_none : (f : Fed) → kind_of (quoted_goes f) ≡ 0
unfolding quoted_goes kind_of
quoted_goes_none f = twice (eqb f.out part) (is_character_lem f.out)
  where
    twice : (a b : Bool) → kind_of (cond a (Quoted f.left f.value) (cond b (Quoted 0 0) Dead)) ≡ 0
    twice true b = refl
    twice false true = refl
    twice false false = refl

pub quoted_feeds : (left value h : ℕ) → (left ≡ 0 → ⊥) → step (Quoted left value) h ≡ quoted_goes (fed_by left value h)
unfolding step in_quoted
quoted_feeds left value h some = rw (ne_eqb left 0 some) refl

module _ (kind : ℕ) (rest : List ℕ) where
  quoted_go : ℕ → ℕ → List ℕ → Token
  quoted_go left value cs = munched (Quoted left value) kind rest cs

  quoted_done : ℕ → List ℕ → Token
  quoted_done c cs = munched (cond (is_character_lem c) (Quoted 0 0) Dead) kind rest cs

  quoted_law : (left value h : ℕ) (cs : List ℕ) → (left ≡ 0 → ⊥) → (left ≡ 9 → ⊥) →
      quoted_go left value (h ∷ cs)
      ≡ cond (eqb (fed_by left value h).out part) (quoted_go (fed_by left value h).left (fed_by left value h).value cs) (quoted_done (fed_by left value h).out cs)
  unfolding quoted_go quoted_done quoted_goes
  quoted_law left value h cs some early =
      munched-on (Quoted left value) (quoted_goes (fed_by left value h)) kind rest h cs
      (quoted_feeds left value h some) (quoted_goes_none (fed_by left value h))
      ∙ through (λ (t : State). munched t kind rest cs) (eqb (fed_by left value h).out part) _ _

  quoted_uchar : {escape : List ℕ} {c : ℕ} → UCHAR escape c → (cs : List ℕ) →
      munched (Quoted 0 0) kind rest (escape ++ cs) ≡ munched (Quoted 0 0) kind rest cs
  unfolding quoted_go quoted_done munched step in_quoted quoted_goes fed_by opened_by kind_of
  quoted_uchar {c = c} (UCHAR.short d char) cs =
      digits_given quoted_go quoted_done quoted_law d (omega arith) char cs
      ∙ ap (λ (b : Bool). munched (cond b (Quoted 0 0) Dead) kind rest cs) char
  quoted_uchar {c = c} (UCHAR.long d char) cs =
      digits_given quoted_go quoted_done quoted_law d (omega arith) char cs
      ∙ ap (λ (b : Bool). munched (cond b (Quoted 0 0) Dead) kind rest cs) char

  quoted_echar : {escape : List ℕ} {c : ℕ} → ECHAR escape c → (cs : List ℕ) →
      munched (Quoted 0 0) kind rest (escape ++ cs) ≡ munched (Quoted 0 0) kind rest cs
  unfolding munched step in_quoted quoted_goes fed_by opened_by echar_of kind_of is_character_lem
  quoted_echar ECHAR.tab cs = refl
  quoted_echar ECHAR.backspace cs = refl
  quoted_echar ECHAR.newline cs = refl
  quoted_echar ECHAR.return cs = refl
  quoted_echar ECHAR.formfeed cs = refl
  quoted_echar ECHAR.quote cs = refl
  quoted_echar ECHAR.apostrophe cs = refl
  quoted_echar ECHAR.backslash cs = refl

quoted_closes : (kind : ℕ) (rest cs : List ℕ) → munched (Quoted 0 0) kind rest (0x22 ∷ cs) ≡ token_is a_string cs
unfolding munched step in_quoted kind_of
quoted_closes kind rest cs = over-quoted a_string cs cs

quoted_inside : {source chars : List ℕ} → StringChars source chars → (kind : ℕ) (rest cs : List ℕ) →
    munched (Quoted 0 0) kind rest (source ++ (0x22 ∷ cs)) ≡ token_is a_string cs
quoted_inside StringChars.none kind rest cs = quoted_closes kind rest cs
quoted_inside (StringChars.raw {c = c} {source = s} ok d) kind rest cs =
    munched-on (Quoted 0 0) (Quoted 0 0) kind rest c (s ++ (0x22 ∷ cs)) (quoted_raw c ok) (quoted_none 0 0)
    ∙ quoted_inside d kind rest cs
quoted_inside (StringChars.echar {c = c} {escape = e} {source = s} x d is) kind rest cs =
    ap (λ (l : List ℕ). munched (Quoted 0 0) kind rest (l ++ (0x22 ∷ cs))) is
    ∙ ap (munched (Quoted 0 0) kind rest) (append_assoc e s (0x22 ∷ cs))
    ∙ quoted_echar kind rest x (s ++ (0x22 ∷ cs))
    ∙ quoted_inside d kind rest cs
quoted_inside (StringChars.uchar {c = c} {escape = e} {source = s} u d is) kind rest cs =
    ap (λ (l : List ℕ). munched (Quoted 0 0) kind rest (l ++ (0x22 ∷ cs))) is
    ∙ ap (munched (Quoted 0 0) kind rest) (append_assoc e s (0x22 ∷ cs))
    ∙ quoted_uchar kind rest u (s ++ (0x22 ∷ cs))
    ∙ quoted_inside d kind rest cs

-- STRING_LITERAL_QUOTE
pub string-found : {source chars : List ℕ} → STRING source chars → (rest : List ℕ) → token_of (source ++ rest) ≡ token_is a_string rest
unfolding token_of munched step begun is_white_lem kind_of
string-found (STRING.string {inside = inside} d is) rest =
    ap (λ (l : List ℕ). token_of (l ++ rest)) is
    ∙ ap (λ (l : List ℕ). token_of (0x22 ∷ l)) (append_assoc inside (0x22 ∷ []) rest)
    ∙ quoted_inside d 0 (0x22 ∷ (inside ++ (0x22 ∷ rest))) rest
