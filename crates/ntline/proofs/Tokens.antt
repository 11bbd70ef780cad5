-- Reading the longest terminal at a position, a character at a time: what holds on the way. Assumes nothing.
use mathlib.Core.Path.{◌≡◌, refl, sym, ap, subst, ◌∙◌}
use mathlib.Core.Bool.{Bool, true, false, cond, false≢true}
use mathlib.Core.List.{List, [], ◌∷◌}
use Prim.Native.Nat.{ℕ, ◌+◌, ◌-◌, ◌≤◌, ◌<◌}
use native.Mathlib.Omega.{arith}
use lib.ListN.{length, get_or}
use lib.Seq.{slice, slice_empty}
use lib.Dec.{eqb}
use Rattle.utf8.specs.Characters.{is_character_lem}
use Rattle.utf8.specs.Texts.{chars_of, seen, SeenAt}
use Rattle.utf8.proofs.Texts.{chars-nil}
use Rattle.ntline.specs.declared.lexing.State.{State}
use Rattle.ntline.specs.declared.lexing.State.TheVariants.{Start, Dead, White, Dot, Hat, Hats, Remark, Under, Colon, Label, Dots, At, Letters, Minus, Alnums, Iri, IriEnd, Quoted, QuotedEnd}
use Rattle.ntline.specs.Classes.{is_alpha_lem, is_iri_char_lem, is_barred, is_label_start_lem}
use Rattle.ntline.specs.Escapes.{fed_by}
use Rattle.ntline.specs.declared.lexing.Kind.{Kind}
use Rattle.ntline.specs.Kinds.{number_of}
use Rattle.ntline.specs.Lexing.{schemed, iri_goes, in_iri, in_quoted, step, kind_of, is_dead_lem, Token, token_is, later_kind, later_rest, munched, token_of}
use Rattle.ntline.specs.Runs.{plain_byte, label_byte, Run, RunTo, SchemeTo}
use Rattle.ntline.specs.Inner.{Reached, StopsAt, TokenAt}
use Rattle.ntline.proofs.Munching.{munched-dead, munched-on, munched-end, over-iri, over-quoted, over-dot, over-hats, iri-raw, iri-none, quoted_none}
use Rattle.ntline.proofs.Words.{label-from, label-begins, kind-label, letters_begin, letters_goes, kind-letters}
use Rattle.ntline.proofs.Worded.{begins-iri, begins-under, begins-quoted, begins-at, begins-hat, begins-dot}
use Rattle.ntline.proofs.Passing.{low-seen, walk_to, alpha_low, alpha_iri, label-low, label-name, iri-run, string-run, run_same}

pub is-dead : (s : State) → is_dead_lem s ≡ true → s ≡ Dead
unfolding is_dead_lem
is-dead Start e = absurd (false≢true e)
is-dead Dead e = refl
is-dead White e = absurd (false≢true e)
is-dead Dot e = absurd (false≢true e)
is-dead Hat e = absurd (false≢true e)
is-dead Hats e = absurd (false≢true e)
is-dead Remark e = absurd (false≢true e)
is-dead Under e = absurd (false≢true e)
is-dead Colon e = absurd (false≢true e)
is-dead Label e = absurd (false≢true e)
is-dead Dots e = absurd (false≢true e)
is-dead At e = absurd (false≢true e)
is-dead Letters e = absurd (false≢true e)
is-dead Minus e = absurd (false≢true e)
is-dead Alnums e = absurd (false≢true e)
is-dead (Iri x y z) e = absurd (false≢true e)
is-dead IriEnd e = absurd (false≢true e)
is-dead (Quoted x y) e = absurd (false≢true e)
is-dead QuotedEnd e = absurd (false≢true e)

-- one character more that no terminal goes on with
munched-stops : (s : State) (kind : ℕ) (rest : List ℕ) (c : ℕ) (cs : List ℕ) → step s c ≡ Dead → munched s kind rest (c ∷ cs) ≡ token_is kind rest
unfolding munched kind_of
munched-stops s kind rest c cs e = rw e (munched-dead kind rest cs)

munched-goes : (s : State) (kind : ℕ) (rest : List ℕ) (c : ℕ) (cs : List ℕ) →
    munched s kind rest (c ∷ cs) ≡ munched (step s c) (later_kind (kind_of (step s c)) kind) (later_rest (kind_of (step s c)) cs rest) cs
unfolding munched
munched-goes s kind rest c cs = refl

munched-over : (s : State) (kind : ℕ) (rest : List ℕ) → munched s kind rest [] ≡ token_is kind rest
unfolding munched
munched-over s kind rest = refl

-- ---- the steps of terminals that have ways of their own

pub kind-iri_end : kind_of IriEnd ≡ 7
unfolding kind_of
kind-iri_end = refl

kind-string : kind_of QuotedEnd ≡ 8
unfolding kind_of
kind-string = refl

kind-under : kind_of Under ≡ 0
unfolding kind_of
kind-under = refl

kind_at : kind_of At ≡ 0
unfolding kind_of
kind_at = refl

kind-colon : kind_of Colon ≡ 0
unfolding kind_of
kind-colon = refl

kind-hat : kind_of Hat ≡ 0
unfolding kind_of
kind-hat = refl

kind-hats : kind_of Hats ≡ 3
unfolding kind_of
kind-hats = refl

kind-dot : kind_of Dot ≡ 2
unfolding kind_of
kind-dot = refl

pub letter-begins : (x : ℕ) → is_alpha_lem x ≡ true → step (Iri 0 0 0) x ≡ Iri 1 0 0
unfolding schemed
letter-begins x h = iri-raw 0 x (alpha_iri x h) (rw h refl) ∙ rw h refl

pub colon-goes : step (Iri 1 0 0) 0x3A ≡ Iri 2 0 0
unfolding step in_iri iri_goes schemed fed_by is_iri_char_lem is_barred is_character_lem
colon-goes = refl

pub iri-closes : step (Iri 2 0 0) 0x3E ≡ IriEnd
unfolding step in_iri
iri-closes = refl

quote-closes : step (Quoted 0 0) 0x22 ≡ QuotedEnd
unfolding step in_quoted
quote-closes = refl

under_goes : step Under 0x3A ≡ Colon
unfolding step
under_goes = refl

hat_goes : step Hat 0x5E ≡ Hats
unfolding step
hat_goes = refl

some_number : (k : Kind) → (k ≡ Kind.Nothing → ⊥) → eqb (number_of k) 0 ≡ false
some_number Kind.Nothing h = absurd (h refl)
some_number Kind.Space h = refl
some_number Kind.Dot h = refl
some_number Kind.Hats h = refl
some_number Kind.Remark h = refl
some_number Kind.Label h = refl
some_number Kind.Tag h = refl
some_number Kind.Iri h = refl
some_number Kind.String h = refl

-- where there is a terminal, its own place is the one found
pub some-to : (k : Kind) (at to : ℕ) → (k ≡ Kind.Nothing → ⊥) → to ≡ cond (eqb (number_of k) 0) at to
some-to k at to h = rw (some_number k h) refl

module _ (b : List ℕ) (at end : ℕ) where
  pub loop_start : at ≤ end → Reached b at end Start 0 at at
  unfolding token_of
  loop_start h = record { later = omega arith; within = h; gone = omega arith; inside = h; same = refl }

  told : (kind to : ℕ) → at ≤ to → to ≤ end → token_of (seen b at end) ≡ token_is kind (seen b to end) → TokenAt b at end kind to
  told kind to h k e =
      record {
        later = h;
        within = k;
        kind_is = ap (λ (t : Token). t.kind) (sym e);
        rest_is = ap (λ (t : Token). t.rest) (sym e);
      }

  pub loop_stops : (state new : State) (kind to i value next : ℕ) → Reached b at end state kind to i → SeenAt b i end value next →
      new ≡ step state value → is_dead_lem new ≡ true → TokenAt b at end kind to
  loop_stops state new kind to i value next l s is dead =
      told kind to l.later l.within
      (l.same ∙ ap (munched state kind (seen b to end)) s.here
      ∙ munched-stops state kind (seen b to end) value (seen b next end) (sym is ∙ is-dead new dead))

  kept-rest : (x : Bool) (to next : ℕ) → cond x (seen b to end) (seen b next end) ≡ seen b (cond x to next) end
  kept-rest true to next = refl
  kept-rest false to next = refl

  kept_low : (x : Bool) (to next : ℕ) → at ≤ to → at ≤ next → at ≤ cond x to next
  kept_low true to next h k = h
  kept_low false to next h k = k

  kept_high : (x : Bool) (to next : ℕ) → to ≤ end → next ≤ end → cond x to next ≤ end
  kept_high true to next h k = h
  kept_high false to next h k = k

  loop_goes : (state new : State) (kind to i value next here kind' to' : ℕ) → Reached b at end state kind to i → SeenAt b i end value next →
      new ≡ step state value → here ≡ kind_of new → kind' ≡ later_kind here kind → to' ≡ cond (eqb here 0) to next → Reached b at end new kind' to' next
  loop_goes state new kind to i value next here kind' to' l s is h k t =
      let low : at ≤ cond (eqb here 0) to next = kept_low (eqb here 0) to next l.later (omega (arith, l.gone, s.later)) in
      let high : cond (eqb here 0) to next ≤ end = kept_high (eqb here 0) to next l.within s.within in
      let e : kind_of (step state value) ≡ here = ap kind_of (sym is) ∙ sym h in
      record {
        later = rw t low;
        within = rw t high;
        gone = omega (arith, l.gone, s.later);
        inside = s.within;
        same =
            l.same ∙ ap (munched state kind (seen b to end)) s.here
            ∙ munched-goes state kind (seen b to end) value (seen b next end)
            ∙ rw (e, ← is, k, t, ← kept-rest (eqb here 0) to next) refl;
      }

  -- a terminal may end behind a character more, or none
  pub loop_some : (state new : State) (kind to i value next : ℕ) (k : Kind) → Reached b at end state kind to i → SeenAt b i end value next →
      new ≡ step state value → number_of k ≡ kind_of new → (k ≡ Kind.Nothing → ⊥) → Reached b at end new (number_of k) next next
  loop_some state new kind to i value next k l s is h some =
      loop_goes state new kind to i value next (number_of k) (number_of k) next l s is h (sym (rw (some_number k some) refl)) (sym (rw (some_number k some) refl))

  pub loop_none : (state new : State) (kind to i value next : ℕ) (k : Kind) → Reached b at end state kind to i → SeenAt b i end value next →
      new ≡ step state value → number_of k ≡ kind_of new → k ≡ Kind.Nothing → Reached b at end new kind to next
  loop_none state new kind to i value next k l s is h none =
      loop_goes state new kind to i value next 0 kind to l s is (ap number_of (sym none) ∙ h) refl refl

  pub loop_ends : (state : State) (kind to i : ℕ) → Reached b at end state kind to i → end ≤ i → TokenAt b at end kind to
  loop_ends state kind to i l h =
      let e : i ≡ end = omega (arith, l.inside) in
      let none : seen b i end ≡ [] = ap (λ (n : ℕ). chars_of (slice n end b)) e ∙ ap chars_of (slice_empty end b) ∙ chars-nil in
      told kind to l.later l.within
      (l.same ∙ ap (munched state kind (seen b to end)) none ∙ munched-over state kind (seen b to end))

  pub loop_passes : (state : State) (kind to i j : ℕ) → end ≤ length b → Reached b at end state kind to i → RunTo state b i end j → Reached b at end state kind to j
  loop_passes state kind to i j long l r = record {
    later = l.later;
    within = l.within;
    gone = omega (arith, l.gone, r.later);
    inside = r.within;
    same = l.same ∙ run_same state b i end j long r kind (seen b to end);
  }

  -- one byte below 0x80 more, behind which no terminal ends, or one does
  module _ (long : end ≤ length b) (s t : State) (kind to i x : ℕ) (l : Reached b at end s kind to i) (h : i < end)
      (is : get_or b i 0 ≡ x) (low : x < 0x80) (e : step s x ≡ t) where
    byte_seen : seen b i end ≡ x ∷ seen b (i + 1) end
    byte_seen = low-seen b i end h long (omega arith) ∙ ap (λ (n : ℕ). n ∷ seen b (i + 1) end) is

    pub loop_byte : kind_of t ≡ 0 → Reached b at end t kind to (i + 1)
    loop_byte none = record {
      later = l.later;
      within = l.within;
      gone = omega (arith, l.gone);
      inside = omega arith;
      same = l.same ∙ ap (munched s kind (seen b to end)) byte_seen ∙ munched-on s t kind (seen b to end) x (seen b (i + 1) end) e none;
    }

    pub loop_end_byte : (new : ℕ) → kind_of t ≡ new → eqb new 0 ≡ false → Reached b at end t new (i + 1) (i + 1)
    loop_end_byte new k some = record {
      later = omega (arith, l.gone);
      within = omega arith;
      gone = omega (arith, l.gone);
      inside = omega arith;
      same = l.same ∙ ap (munched s kind (seen b to end)) byte_seen ∙ munched-end s t kind (seen b to end) x (seen b (i + 1) end) new e k some;
    }

  -- nothing goes on
  pub loop_over : (state : State) (kind to i : ℕ) → Reached b at end state kind to i →
      ((k : ℕ) (rest : List ℕ) → munched state k rest (seen b i end) ≡ token_is k rest) → TokenAt b at end kind to
  loop_over state kind to i l stop = told kind to l.later l.within (l.same ∙ stop kind (seen b to end))

  module _ (long : end ≤ length b) (h : at < end) where
    pub dot-token : get_or b at 0 ≡ 0x2E → TokenAt b at end 2 (at + 1)
    dot-token is =
        loop_over Dot 2 (at + 1) (at + 1) (loop_end_byte long Start Dot 0 at at 0x2E (loop_start (omega arith)) h is (omega arith) begins-dot 2 kind-dot refl)
        (λ k rest. over-dot k rest (seen b (at + 1) end))

    pub hats_token : get_or b at 0 ≡ 0x5E → at + 1 < end → get_or b (at + 1) 0 ≡ 0x5E → TokenAt b at end 3 (at + 2)
    hats_token is more too =
        let one = loop_byte long Start Hat 0 at at 0x5E (loop_start (omega arith)) h is (omega arith) begins-hat kind-hat in
        let two = loop_end_byte long Hat Hats 0 at (at + 1) 0x5E one more too (omega arith) hat_goes 3 kind-hats refl in
        let e : at + 1 + 1 ≡ at + 2 = omega arith in
        subst (λ (n : ℕ). TokenAt b at end 3 n) e (loop_over Hats 3 (at + 1 + 1) (at + 1 + 1) two (λ k rest. over-hats k rest (seen b (at + 1 + 1) end)))

    -- behind the plain bytes of a string
    pub string-reached : (to : ℕ) → get_or b at 0 ≡ 0x22 → Run (plain_byte true) b (at + 1) end to → Reached b at end (Quoted 0 0) 0 at to
    string-reached to is r =
        let one = loop_byte long Start (Quoted 0 0) 0 at at 0x22 (loop_start (omega arith)) h is (omega arith) begins-quoted (quoted_none 0 0) in
        loop_passes (Quoted 0 0) 0 at (at + 1) to long one (string-run b (at + 1) end to r)

    pub string-token : (to : ℕ) → get_or b at 0 ≡ 0x22 → Run (plain_byte true) b (at + 1) end to → to < end → get_or b to 0 ≡ 0x22 → TokenAt b at end 8 (to + 1)
    string-token to is r more last =
        loop_over QuotedEnd 8 (to + 1) (to + 1)
        (loop_end_byte long (Quoted 0 0) QuotedEnd 0 at to 0x22 (string-reached to is r) more last (omega arith) quote-closes 8 kind-string refl)
        (λ k rest. over-quoted k rest (seen b (to + 1) end))

    iri-begun : get_or b at 0 ≡ 0x3C → Reached b at end (Iri 0 0 0) 0 at (at + 1)
    iri-begun is = loop_byte long Start (Iri 0 0 0) 0 at at 0x3C (loop_start (omega arith)) h is (omega arith) begins-iri (iri-none 0 0 0)

    -- behind the scheme and its colon
    iri-schemed : (to : ℕ) → get_or b at 0 ≡ 0x3C → SchemeTo b (at + 1) end to → Reached b at end (Iri 2 0 0) 0 at to
    iri-schemed to is s =
        let one = loop_byte long (Iri 0 0 0) (Iri 1 0 0) 0 at (at + 1) (get_or b (at + 1) 0) (iri-begun is) (omega (arith, s.later, s.within)) refl
        (alpha_low (get_or b (at + 1) 0) s.letter) (letter-begins (get_or b (at + 1) 0) s.letter) (iri-none 1 0 0) in
        let two = loop_passes (Iri 1 0 0) 0 at (at + 1 + 1) (to - 1) long one s.inside in
        let three = loop_byte long (Iri 1 0 0) (Iri 2 0 0) 0 at (to - 1) 0x3A two (omega (arith, s.later, s.within)) s.colon (omega arith) colon-goes (iri-none 2 0 0) in
        let e : to - 1 + 1 ≡ to = omega (arith, s.later) in
        subst (λ (n : ℕ). Reached b at end (Iri 2 0 0) 0 at n) e three

    -- behind the plain bytes of an IRI
    pub iri-reached : (behind to : ℕ) → get_or b at 0 ≡ 0x3C → SchemeTo b (at + 1) end behind → Run (plain_byte false) b behind end to →
        Reached b at end (Iri 2 0 0) 0 at to
    iri-reached behind to is s r = loop_passes (Iri 2 0 0) 0 at behind to long (iri-schemed behind is s) (iri-run b behind end to r)

    pub iri-token : (behind to : ℕ) → get_or b at 0 ≡ 0x3C → SchemeTo b (at + 1) end behind → Run (plain_byte false) b behind end to → to < end →
        get_or b to 0 ≡ 0x3E → TokenAt b at end 7 (to + 1)
    iri-token behind to is s r more last =
        loop_over IriEnd 7 (to + 1) (to + 1)
        (loop_end_byte long (Iri 2 0 0) IriEnd 0 at to 0x3E (iri-reached behind to is s r) more last (omega arith) iri-closes 7 kind-iri_end refl)
        (λ k rest. over-iri k rest (seen b (to + 1) end))

    pub tag_token : (to : ℕ) → get_or b at 0 ≡ 0x40 → Run is_alpha_lem b (at + 1) end to → at + 1 < to → StopsAt Letters b to end → TokenAt b at end 6 to
    tag_token to is r some stop =
        let one = loop_byte long Start At 0 at at 0x40 (loop_start (omega arith)) h is (omega arith) begins-at kind_at in
        let letter = r.each (at + 1) (omega arith) some in
        let two = loop_end_byte long At Letters 0 at (at + 1) (get_or b (at + 1) 0) one (omega (arith, r.within)) refl
        (alpha_low (get_or b (at + 1) 0) letter) (letters_begin (get_or b (at + 1) 0) letter) 6 kind-letters refl in
        let all = walk_to (λ (k : ℕ). Reached b at end Letters 6 k k) (at + 1 + 1) to (omega arith) two
        (λ k l m q.
        let more = r.each k (omega arith) m in
        loop_end_byte long Letters Letters 6 k k (get_or b k 0) q (omega (arith, r.within)) refl
        (alpha_low (get_or b k 0) more) (letters_goes (get_or b k 0) more) 6 kind-letters refl) in
        loop_over Letters 6 to to all stop.stops

    pub label-token : (to : ℕ) → get_or b at 0 ≡ 0x5F → at + 1 < end → get_or b (at + 1) 0 ≡ 0x3A → Run label_byte b (at + 2) end to → at + 2 < to →
        is_label_start_lem (get_or b (at + 2) 0) ≡ true → StopsAt Label b to end → TokenAt b at end 5 to
    label-token to is more too r some starts stop =
        let low = label-low (get_or b (at + 2) 0) (r.each (at + 2) (omega arith) some) in
        let one = loop_byte long Start Under 0 at at 0x5F (loop_start (omega arith)) h is (omega arith) begins-under kind-under in
        let two = loop_byte long Under Colon 0 at (at + 1) 0x3A one more too (omega arith) under_goes kind-colon in
        let e : at + 1 + 1 ≡ at + 2 = omega arith in
        let here = subst (λ (n : ℕ). Reached b at end Colon 0 at n) e two in
        let three = loop_end_byte long Colon Label 0 at (at + 2) (get_or b (at + 2) 0) here (omega (arith, r.within)) refl low
        (label-begins (get_or b (at + 2) 0) starts) 5 kind-label refl in
        let all = walk_to (λ (k : ℕ). Reached b at end Label 5 k k) (at + 2 + 1) to (omega arith) three
        (λ k l m q.
        let byte = r.each k (omega arith) m in
        loop_end_byte long Label Label 5 k k (get_or b k 0) q (omega (arith, r.within)) refl (label-low (get_or b k 0) byte)
        (label-from (get_or b k 0) (label-name (get_or b k 0) byte)) 5 kind-label refl) in
        loop_over Label 5 to to all stop.stops

-- ---- where no terminal goes on

module _ (b : List ℕ) (at end : ℕ) where
  pub stops-end_at : (s : State) → at ≡ end → StopsAt s b at end
  stops-end_at s e =
      let none : seen b at end ≡ [] = ap (λ (n : ℕ). chars_of (slice n end b)) e ∙ ap chars_of (slice_empty end b) ∙ chars-nil in
      record { stops = λ kind rest. ap (munched s kind rest) none ∙ munched-over s kind rest }

  module _ (long : end ≤ length b) (h : at < end) (x : ℕ) (is : x ≡ get_or b at 0) (low : x ≤ 0x7F) where
    pub stops-byte : (s new : State) → new ≡ step s x → is_dead_lem new ≡ true → StopsAt s b at end
    stops-byte s new goes dead =
        let here : seen b at end ≡ x ∷ seen b (at + 1) end
        = low-seen b at end h long (omega arith) ∙ ap (λ (n : ℕ). n ∷ seen b (at + 1) end) (sym is) in
        record { stops = λ kind rest. ap (munched s kind rest) here ∙ munched-stops s kind rest x (seen b (at + 1) end) (sym goes ∙ is-dead new dead) }
