-- What the states let through as an IRI or a string, the grammar has as one. Assumes nothing.
use mathlib.Core.Path.{◌≡◌, refl, sym, ap, subst, ◌∙◌}
use mathlib.Core.Bool.{Bool, true, false, cond, ◌&&◌, ◌||◌, false≢true}
use mathlib.Core.List.{List, [], ◌∷◌, ◌++◌, append_assoc}
use Prim.Native.Nat.{ℕ, zero, suc, ◌≤◌, ◌<◌}
use native.Mathlib.Omega.{arith}
use lib.ListN.{length, length-append}
use lib.Dec.{eqb, ltb}
use borrow.Author.Tests.{eqb-true, ltb-true}
use Rattle.utf8.specs.Characters.{is_character_lem}
use Rattle.utf8.specs.Texts.{bad}
use Rattle.utf8.proofs.Judged.{and_left, and_right}
use Rattle.ntline.specs.declared.lexing.State.{State}
use Rattle.ntline.specs.declared.lexing.State.TheVariants.{Dead, Iri, IriEnd}
use Rattle.ntline.specs.Classes.{is_alpha_lem, is_iri_char_lem, is_scheme_char_lem}
use Rattle.ntline.specs.Grammar.{is_absolute, has_colon, UCHAR, IriChars}
use Rattle.ntline.specs.Escapes.{part, opened_by, fed_by}
use Rattle.ntline.specs.Lexing.{schemed, iri_goes, in_iri, step, kind_of}
use Rattle.ntline.proofs.Munching.{Way, before, amid, behind, iri-none, iri-feeds}
use Rattle.ntline.proofs.Running.{run, Closing, closing_dead, closing_nil, closing_on, Digits, digits_back}

-- ---- the scheme, backwards

way_zero : {n : ℕ} {cs : List ℕ} → Way n cs → n ≡ 0 → is_absolute cs ≡ true
way_zero (before h) e = h
way_zero (amid h) e = absurd (omega arith)
way_zero behind e = absurd (omega arith)

way_one : {n : ℕ} {cs : List ℕ} → Way n cs → n ≡ 1 → has_colon cs ≡ true
way_one (before h) e = absurd (omega arith)
way_one (amid h) e = h
way_one behind e = absurd (omega arith)

way_back : (scheme c : ℕ) (cs : List ℕ) → scheme ≤ 2 → ltb (schemed scheme c) 3 ≡ true → Way (schemed scheme c) cs → Way scheme (c ∷ cs)
unfolding schemed is_absolute has_colon
way_back zero c cs few fine w = before (letter (is_alpha_lem c) refl fine w)
  where
    letter : (x : Bool) → is_alpha_lem c ≡ x → ltb (cond x 1 3) 3 ≡ true → Way (cond x 1 3) cs → (is_alpha_lem c && has_colon cs) ≡ true
    letter true e f v = rw e (way_one v refl)
    letter false e f v = absurd (false≢true f)
way_back (suc zero) c cs few fine w = amid (colon (eqb c 0x3A) refl (is_scheme_char_lem c) refl fine w)
  where
    colon : (x : Bool) → eqb c 0x3A ≡ x → (y : Bool) → is_scheme_char_lem c ≡ y → ltb (cond x 2 (cond y 1 3)) 3 ≡ true → Way (cond x 2 (cond y 1 3)) cs →
        (eqb c 0x3A || (is_scheme_char_lem c && has_colon cs)) ≡ true
    colon true e y g f v = rw e refl
    colon false e true g f v = rw (e, g) (way_one v refl)
    colon false e false g f v = absurd (false≢true f)
way_back (suc (suc zero)) c cs few fine w = behind
way_back (suc (suc (suc n))) c cs few fine w = absurd (omega arith)

-- ---- IRIs

record IriRest (scheme : ℕ) (cs : List ℕ) (kind : ℕ) : Type 0 where
  kind_is : kind ≡ 7
  source : List ℕ
  iri : List ℕ
  parts : cs ≡ source ++ (0x3E ∷ [])
  chars : IriChars source iri
  way : Way scheme iri

iri-end_kind : kind_of IriEnd ≡ 7
unfolding kind_of
iri-end_kind = refl

iri-end_step : (c : ℕ) → step IriEnd c ≡ Dead
unfolding step
iri-end_step c = refl

record Over (cs : List ℕ) (kind end : ℕ) : Type 0 where
  nil : cs ≡ []
  is : kind ≡ end

iri-over : (cs : List ℕ) (kind : ℕ) → Closing IriEnd cs kind → Over cs kind 7
unfolding run
iri-over [] kind w = record { nil = refl; is = sym w.ended ∙ iri-end_kind }
iri-over (c ∷ cs) kind w = absurd (closing_dead (closing_on w (iri-end_step c)) refl)

module _ (scheme : ℕ) where
  iri-state : ℕ → ℕ → State
  iri-state left value = Iri scheme left value

  iri-given : ℕ → State
  iri-given c = cond (is_iri_char_lem c && ltb (schemed scheme c) 3) (Iri (schemed scheme c) 0 0) Dead

  iri-silent : (left value : ℕ) → kind_of (iri-state left value) ≡ 0
  unfolding iri-state
  iri-silent left value = iri-none scheme left value

  iri-ruled : iri-given bad ≡ Dead
  unfolding iri-given is_iri_char_lem is_character_lem
  iri-ruled = refl

  iri-fed : (left value h : ℕ) → (left ≡ 0 → ⊥) → (left ≡ 9 → ⊥) →
      step (iri-state left value) h
      ≡ cond (eqb (fed_by left value h).out part) (iri-state (fed_by left value h).left (fed_by left value h).value) (iri-given (fed_by left value h).out)
  unfolding iri-state iri-given iri_goes
  iri-fed left value h some early = iri-feeds scheme left value h some early

  close_step : step (Iri scheme 0 0) 0x3E ≡ cond (eqb scheme 2) IriEnd Dead
  unfolding step in_iri
  close_step = refl

  slash_step : step (Iri scheme 0 0) 0x5C ≡ Iri scheme 9 0
  unfolding step in_iri iri_goes fed_by
  slash_step = refl

  short-step : step (Iri scheme 9 0) 0x75 ≡ Iri scheme 4 0
  unfolding step in_iri iri_goes fed_by opened_by
  short-step = refl

  long-step : step (Iri scheme 9 0) 0x55 ≡ Iri scheme 8 0
  unfolding step in_iri iri_goes fed_by opened_by
  long-step = refl

  wrong-step : (d : ℕ) → eqb d 0x75 ≡ false → eqb d 0x55 ≡ false → step (Iri scheme 9 0) d ≡ Dead
  unfolding step in_iri
  wrong-step d x y = rw (x, y) refl

  raw-step : (c : ℕ) → eqb c 0x3E ≡ false → eqb c 0x5C ≡ false → (b : Bool) → eqb c part ≡ b → step (Iri scheme 0 0) c ≡ iri-given (cond b bad c)
  unfolding step in_iri iri_goes fed_by iri-given
  raw-step c x y true e = rw (x, y, e) refl
  raw-step c x y false e = rw (x, y, e, e) refl

  -- what a character given leads to
  record Given (c : ℕ) (cs : List ℕ) (kind : ℕ) : Type 0 where
    char : is_iri_char_lem c ≡ true
    fine : ltb (schemed scheme c) 3 ≡ true
    goes : Closing (Iri (schemed scheme c) 0 0) cs kind

  given_back : (c : ℕ) (cs : List ℕ) (kind : ℕ) → Closing (iri-given c) cs kind → Given c cs kind
  unfolding iri-given
  given_back c cs kind w = which (is_iri_char_lem c && ltb (schemed scheme c) 3) refl w
    where
      which : (x : Bool) → (is_iri_char_lem c && ltb (schemed scheme c) 3) ≡ x → Closing (cond x (Iri (schemed scheme c) 0 0) Dead) cs kind → Given c cs kind
      which true e v = record { char = and_left (is_iri_char_lem c) _ e; fine = and_right (is_iri_char_lem c) _ e; goes = v }
      which false e v = absurd (closing_dead v refl)

  module _ (few : scheme ≤ 2) (most : ℕ) (later : (next : ℕ) (rest : List ℕ) (kind : ℕ) → length rest ≤ most → next ≤ 2 → Closing (Iri next 0 0) rest kind → IriRest next rest kind) where
    next-few : (c : ℕ) → ltb (schemed scheme c) 3 ≡ true → schemed scheme c ≤ 2
    next-few c e = let h : schemed scheme c < 3 = ltb-true (schemed scheme c) 3 e in omega arith

    raw-back : (c : ℕ) (cs : List ℕ) (kind : ℕ) → length cs ≤ most → Given c cs kind → IriRest scheme (c ∷ cs) kind
    raw-back c cs kind short g =
        let r = later (schemed scheme c) cs kind short (next-few c g.fine) g.goes in
        record {
          kind_is = r.kind_is;
          source = c ∷ r.source;
          iri = c ∷ r.iri;
          parts = ap (λ (l : List ℕ). c ∷ l) r.parts;
          chars = IriChars.raw g.char r.chars;
          way = way_back scheme c r.iri few g.fine r.way;
        }

    escape_back : (escape : List ℕ) (c : ℕ) (cs whole : List ℕ) (kind : ℕ) → UCHAR escape c → whole ≡ escape ++ cs → length cs ≤ most → Given c cs kind → IriRest scheme whole kind
    escape_back escape c cs whole kind u is short g =
        let r = later (schemed scheme c) cs kind short (next-few c g.fine) g.goes in
        record {
          kind_is = r.kind_is;
          source = escape ++ r.source;
          iri = c ∷ r.iri;
          parts = is ∙ ap (λ (l : List ℕ). escape ++ l) r.parts ∙ sym (append_assoc escape r.source (0x3E ∷ []));
          chars = IriChars.uchar u g.char r.chars refl;
          way = way_back scheme c r.iri few g.fine r.way;
        }

    digits_short : {n value kind : ℕ} {ds : List ℕ} (d : Digits iri-state iri-given iri-silent iri-ruled iri-fed n value ds kind) → length d.rest ≤ length ds
    digits_short d = omega (arith, ap length d.parts, length-append d.hs d.rest)

    uchar-back : (d : ℕ) (ds : List ℕ) (kind : ℕ) → length ds ≤ most → Closing (Iri scheme 9 0) (d ∷ ds) kind → IriRest scheme (0x5C ∷ d ∷ ds) kind
    unfolding iri-state
    uchar-back d ds kind short w = which (eqb d 0x75) refl (eqb d 0x55) refl
      where
        which : (x : Bool) → eqb d 0x75 ≡ x → (y : Bool) → eqb d 0x55 ≡ y → IriRest scheme (0x5C ∷ d ∷ ds) kind
        which true e y f =
            let is = eqb-true d 0x75 e in
            let g = digits_back iri-state iri-given iri-silent iri-ruled iri-fed 3 0 ds kind (omega arith) (closing_on w (ap (step (Iri scheme 9 0)) is ∙ short-step)) in
            escape_back (0x5C ∷ 0x75 ∷ g.hs) g.number g.rest (0x5C ∷ d ∷ ds) kind (UCHAR.short g.hexes g.char)
            (ap (λ (n : ℕ). 0x5C ∷ n ∷ ds) is ∙ ap (λ (l : List ℕ). 0x5C ∷ 0x75 ∷ l) g.parts)
            (omega (arith, digits_short g)) (given_back g.number g.rest kind g.goes)
        which false e true f =
            let is = eqb-true d 0x55 f in
            let g = digits_back iri-state iri-given iri-silent iri-ruled iri-fed 7 0 ds kind (omega arith) (closing_on w (ap (step (Iri scheme 9 0)) is ∙ long-step)) in
            escape_back (0x5C ∷ 0x55 ∷ g.hs) g.number g.rest (0x5C ∷ d ∷ ds) kind (UCHAR.long g.hexes g.char)
            (ap (λ (n : ℕ). 0x5C ∷ n ∷ ds) is ∙ ap (λ (l : List ℕ). 0x5C ∷ 0x55 ∷ l) g.parts)
            (omega (arith, digits_short g)) (given_back g.number g.rest kind g.goes)
        which false e false f = absurd (closing_dead (closing_on w (wrong-step d e f)) refl)

    slash_back : (cs : List ℕ) (kind : ℕ) → length cs ≤ suc most → Closing (Iri scheme 9 0) cs kind → IriRest scheme (0x5C ∷ cs) kind
    slash_back [] kind short w = absurd (closing_nil w (iri-none scheme 9 0))
    slash_back (d ∷ ds) kind short w = uchar-back d ds kind (omega arith) w

    close_back : (cs : List ℕ) (kind : ℕ) → (x : Bool) → eqb scheme 2 ≡ x → Closing (cond x IriEnd Dead) cs kind → IriRest scheme (0x3E ∷ cs) kind
    close_back cs kind true e w =
        let o = iri-over cs kind w in
        let two : scheme ≡ 2 = eqb-true scheme 2 e in
        record {
          kind_is = o.is;
          source = [];
          iri = [];
          parts = ap (λ (l : List ℕ). 0x3E ∷ l) o.nil;
          chars = IriChars.none;
          way = subst (λ (n : ℕ). Way n []) (sym two) behind;
        }
    close_back cs kind false e w = absurd (closing_dead w refl)

    char-back : (c : ℕ) (cs : List ℕ) (kind : ℕ) → length cs ≤ most → Closing (Iri scheme 0 0) (c ∷ cs) kind →
        (x : Bool) → eqb c 0x3E ≡ x → (y : Bool) → eqb c 0x5C ≡ y → (z : Bool) → eqb c part ≡ z → IriRest scheme (c ∷ cs) kind
    char-back c cs kind short w true e y f z g =
        let is = eqb-true c 0x3E e in
        subst (λ (n : ℕ). IriRest scheme (n ∷ cs) kind) (sym is)
        (close_back cs kind (eqb scheme 2) refl (closing_on w (ap (step (Iri scheme 0 0)) is ∙ close_step)))
    char-back c cs kind short w false e true f z g =
        let is = eqb-true c 0x5C f in
        subst (λ (n : ℕ). IriRest scheme (n ∷ cs) kind) (sym is)
        (slash_back cs kind (omega arith) (closing_on w (ap (step (Iri scheme 0 0)) is ∙ slash_step)))
    char-back c cs kind short w false e false f true g = absurd (closing_dead (closing_on w (raw-step c e f true g)) iri-ruled)
    char-back c cs kind short w false e false f false g = raw-back c cs kind short (given_back c cs kind (closing_on w (raw-step c e f false g)))

-- nothing is left: no '>' stands there
iri-none_left : (scheme : ℕ) (cs : List ℕ) (kind : ℕ) → length cs ≤ 0 → Closing (Iri scheme 0 0) cs kind → IriRest scheme cs kind
iri-none_left scheme [] kind short w = absurd (closing_nil w (iri-none scheme 0 0))
iri-none_left scheme (c ∷ cs) kind short w = absurd (omega arith)

iri-more : (scheme : ℕ) → scheme ≤ 2 → (most : ℕ) → ((next : ℕ) (rest : List ℕ) (kind : ℕ) → length rest ≤ most → next ≤ 2 → Closing (Iri next 0 0) rest kind → IriRest next rest kind) →
    (cs : List ℕ) (kind : ℕ) → length cs ≤ suc most → Closing (Iri scheme 0 0) cs kind → IriRest scheme cs kind
iri-more scheme few most later [] kind short w = absurd (closing_nil w (iri-none scheme 0 0))
iri-more scheme few most later (c ∷ cs) kind short w =
    char-back scheme few most later c cs kind (omega arith) w (eqb c 0x3E) refl (eqb c 0x5C) refl (eqb c part) refl

iri-back : (most scheme : ℕ) (cs : List ℕ) (kind : ℕ) → length cs ≤ most → scheme ≤ 2 → Closing (Iri scheme 0 0) cs kind → IriRest scheme cs kind
iri-back zero scheme cs kind short few w = iri-none_left scheme cs kind (omega arith) w
iri-back (suc most) scheme cs kind short few w = iri-more scheme few most (λ next rest k s f v. iri-back most next rest k s f v) cs kind short w

-- behind '<': the inside, absolute, and '>'
pub record Iriref (cs : List ℕ) (kind : ℕ) : Type 0 where
  pub kind_is : kind ≡ 7
  pub inside : List ℕ
  pub iri : List ℕ
  pub parts : cs ≡ inside ++ (0x3E ∷ [])
  pub chars : IriChars inside iri
  pub absolute : is_absolute iri ≡ true

pub iri-sound : (cs : List ℕ) (kind : ℕ) → Closing (Iri 0 0 0) cs kind → Iriref cs kind
iri-sound cs kind w =
    let r = iri-back (length cs) 0 cs kind (omega arith) (omega arith) w in
    record { kind_is = r.kind_is; inside = r.source; iri = r.iri; parts = r.parts; chars = r.chars; absolute = way_zero r.way refl }
