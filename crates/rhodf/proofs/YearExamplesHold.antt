-- The examples of year by year hold: the closures by their rules, the years by the theorems, the rest computes. Assumes nothing.
use mathlib.Core.Path.{◌≡◌, refl, sym, ap, ◌∙◌}
use mathlib.Core.Bool.{Bool, true, false, cond, true≢false}
use mathlib.Core.List.{List, [], ◌∷◌}
use mathlib.Core.Logic.{◌⊎◌, inl, inr}
use Prim.Native.Nat.{ℕ, zero, suc, ◌<◌}
use native.Mathlib.Omega.{arith}
use lib.Dec.{eqb}
use borrow.Author.Tests.{eqb-true}
use Rattle.ground.specs.Bits.{has}
use Rattle.ground.specs.Lists.{All, Every}
use Rattle.ground.proofs.Masks.{has-none, has-high}
use Rattle.term.specs.Term.{sc, type}
use Rattle.ruleset.specs.RuleSet.{basic_set}
use Rattle.annotation.proofs.SheetExamplesHold.{sheet_examples_hold}
use Rattle.table.specs.Rows.{Triple, triple, Row, row, value_at}
use Rattle.table.specs.Sound.{SoundRows}
use Rattle.table.proofs.Ordering.{Tri, less, same, more, tri}
use Rattle.rhodf.specs.Graph.{graph_of}
use Rattle.rhodf.specs.Rules.{Rule, r2a, r2b, r3a, r3b, r4a, r4b, r5a, r5b}
use Rattle.rhodf.specs.Closure.{ClosureOf}
use Rattle.rhodf.specs.Plain.{DrawnFrom, line, drawn, none, and, LinesOf, ExactlyDrawn, Agree, has_bit, in_year}
use Rattle.rhodf.specs.YearExamples.{
  lamps,
  lamps_closed,
  InTwoYears,
  others,
  others_closed,
  in2005,
  AlikeIn2005,
  from1998,
  TwoBaseYears,
  ladder,
  InOneStep,
  ByTwoSteps,
  on_two_sheets,
  OnlyTogether,
  year_examples,
}
use Rattle.rhodf.proofs.RulesDecided.{rules-keep_legal, rules-decided}
use Rattle.rhodf.proofs.Checking.{everywhere, holds-everywhere, is_ordered, AllAnnotated, sound-holds}
use Rattle.rhodf.proofs.DrawnClosure.{by, is_drawn_by, closure_with, is_closed_by, closure_by}
use Rattle.rhodf.proofs.Readings.{years-read, sheets-read}
use Rattle.rhodf.proofs.Years.{bit_exactly_drawn, bits_agree, years-agree}

-- two tests of one outcome
abbrev same_bit : Bool → Bool → Bool
same_bit true u = u
same_bit false u = cond u false true

same-bit_true : (u w : Bool) → same_bit u w ≡ true → u ≡ w
same-bit_true true w e = sym e
same-bit_true false true e = e
same-bit_true false false e = refl

-- two tables written out agree on a bit: at each row of either it is tried, and elsewhere neither holds anything
module _ (k k' : ℕ) (rows rows' : List Row) where
  abbrev agrees_at : Triple → Bool
  agrees_at t = same_bit (has_bit k (graph_of rows t)) (has_bit k' (graph_of rows' t))

  agree-by : everywhere agrees_at rows ≡ true → everywhere agrees_at rows' ≡ true → Agree (has_bit k) (has_bit k') rows rows'
  agree-by e e' t = same-bit_true _ _ (go (tri 0 (graph_of rows t)) (tri 0 (graph_of rows' t)))
    where
      go : Tri 0 (graph_of rows t) → Tri 0 (graph_of rows' t) → agrees_at t ≡ true
      go (less h) q = holds-everywhere agrees_at rows e t h
      go (same h) (less h') = holds-everywhere agrees_at rows' e' t h'
      go (same h) (same h') = rw (← h, ← h', has-none k, has-none k') refl
      go (same h) (more h') = absurd (omega arith)
      go (more h) q = absurd (omega arith)

lamps-close : ClosureOf 1 Rule lamps lamps_closed
unfolding is_closed_by
lamps-close = closure_by basic_set (by (r3b 11 12 10) ∷ []) refl refl

others-close : ClosureOf 1 Rule others others_closed
unfolding is_closed_by
others-close = closure_by basic_set (by (r3b 11 12 10) ∷ []) refl refl

lamps-sound : SoundRows 1 lamps
unfolding is_ordered
lamps-sound = sound-holds 1 lamps refl (refl, (refl, tt))

others-sound : SoundRows 1 others
unfolding is_ordered
others-sound = sound-holds 1 others refl (refl, (refl, (refl, tt)))

from1998-sound : SoundRows 1 from1998
unfolding is_ordered
from1998-sound = sound-holds 1 from1998 refl (refl, (refl, tt))

-- 96 is bits 5 and 6
bits_of_96 : (k : ℕ) → has_bit k 96 ≡ true → (k ≡ 5) ⊎ (k ≡ 6)
unfolding has
bits_of_96 zero e = absurd (true≢false (sym e))
bits_of_96 (suc zero) e = absurd (true≢false (sym e))
bits_of_96 (suc (suc zero)) e = absurd (true≢false (sym e))
bits_of_96 (suc (suc (suc zero))) e = absurd (true≢false (sym e))
bits_of_96 (suc (suc (suc (suc zero)))) e = absurd (true≢false (sym e))
bits_of_96 (suc (suc (suc (suc (suc zero))))) e = inl refl
bits_of_96 (suc (suc (suc (suc (suc (suc zero)))))) e = inr refl
bits_of_96 (suc (suc (suc (suc (suc (suc (suc k))))))) e =
    absurd (true≢false (sym e ∙ has-high 96 7 (suc (suc (suc (suc (suc (suc (suc k))))))) (omega arith) (omega arith)))

is_set : (k : ℕ) → (k ≡ 5) ⊎ (k ≡ 6) → has_bit k 96 ≡ true
unfolding has
is_set k (inl e) = rw e refl
is_set k (inr e) = rw e refl

in_two_years : InTwoYears
unfolding value_at
in_two_years k h =
    let exactly = bit_exactly_drawn Rule rules-keep_legal rules-decided 1 years-read k h lamps lamps_closed lamps-sound lamps-close (triple 10 type 12) in
    (λ d. bits_of_96 k (exactly.1 d), λ w. exactly.0 (is_set k w))

alike_in_2005 : AlikeIn2005
unfolding value_at has
alike_in_2005 = record {
  one_closure = lamps-close;
  other_closure = others-close;
  same_lines = lines;
  same_closures = bits_agree Rule rules-keep_legal rules-decided 1 years-read 5 5 (omega arith) (omega arith) lamps others lamps_closed others_closed
      lamps-sound others-sound lamps-close others-close lines;
  these_three = agree-by 5 5 lamps_closed in2005 refl refl;
  other_in_2006 = λ same. true≢false (same (triple 10 type 12));
}
  where
    lines : Agree (has_bit 5) (has_bit 5) lamps others
    lines = agree-by 5 5 lamps others refl refl

two_base_years : TwoBaseYears
unfolding value_at has
two_base_years = record {
  same_lines = lines;
  same_closures = λ closed c.
      years-agree Rule rules-keep_legal rules-decided 2000 1998 2005 (record { from_base = omega arith; in_64 = omega arith }) (record { from_base = omega arith; in_64 = omega arith })
      lamps from1998 lamps_closed closed lamps-sound from1998-sound lamps-close c lines;
}
  where
    lines : Agree (in_year 2000 2005) (in_year 1998 2005) lamps from1998
    lines = agree-by 5 7 lamps from1998 refl refl

-- of the ladder: a line by sc goes one up, a line by type goes to 5
abbrev is_rung : Triple → Bool
is_rung t = cond (eqb t.p sc) (eqb t.o (suc t.s)) (cond (eqb t.p type) (eqb t.o 5) false)

is-rung : (t : Triple) → LinesOf (has_bit 0) ladder t → is_rung t ≡ true
is-rung t e = go (tri 0 (graph_of ladder t))
  where
    go : Tri 0 (graph_of ladder t) → is_rung t ≡ true
    go (less h) = holds-everywhere is_rung ladder refl t h
    go (same h) = absurd (true≢false (sym e ∙ (ap (has_bit 0) (sym h) ∙ has-none 0)))
    go (more h) = absurd (omega arith)

-- the one rule that gives a type from lines by sc and type is 3b, and it would need (6 sc 7) and (10 type 6)
not-by_one_rule : (ps : List Triple) (t : Triple) → Rule ps t → t ≡ triple 10 type 7 → All (LinesOf (has_bit 0) ladder) ps → ⊥
not-by_one_rule ps t (r2a a b c) e all = omega (arith, ap (λ (x : Triple). x.p) e)
not-by_one_rule ps t (r2b d e x y) _ all = true≢false (sym (is-rung _ all.0))
not-by_one_rule ps t (r3a a b c) e all = omega (arith, ap (λ (x : Triple). x.p) e)
not-by_one_rule ps t (r3b a b x) e all =
    omega (arith, ap (λ (y : Triple). y.o) e, eqb-true b (suc a) (is-rung _ all.0), eqb-true a 5 (is-rung _ all.1.0))
not-by_one_rule ps t (r4a d b x y) e all = true≢false (sym (is-rung _ all.0))
not-by_one_rule ps t (r4b d b x y) e all = true≢false (sym (is-rung _ all.0))
not-by_one_rule ps t (r5a a b d x y) e all = true≢false (sym (is-rung _ all.0))
not-by_one_rule ps t (r5b a b d x y) e all = true≢false (sym (is-rung _ all.0))

by_two_steps : ByTwoSteps
unfolding value_at has
by_two_steps = record {
  drawn_there = drawn _ (triple 10 type 7) (r3b 6 7 10) refl (and _ _ (line (triple 6 sc 7) refl) (and _ _ first_step none));
  not_at_once = at_once;
}
  where
    first_step : DrawnFrom Rule (LinesOf (has_bit 0) ladder) (triple 10 type 6)
    first_step = drawn _ (triple 10 type 6) (r3b 5 6 10) refl (and _ _ (line (triple 5 sc 6) refl) (and _ _ (line (triple 10 type 5) refl) none))

    at_once : InOneStep Rule (LinesOf (has_bit 0) ladder) (triple 10 type 7) → ⊥
    at_once (inl e) = true≢false (sym e)
    at_once (inr w) = not-by_one_rule w.0 (triple 10 type 7) w.1 refl w.2

abbrev together_closed : List Row
together_closed = row 10 type 11 0xAAAAAAAAAAAAAAAA ∷ row 10 type 12 0x8888888888888888 ∷ row 11 sc 12 0xCCCCCCCCCCCCCCCC ∷ []

together-legal : AllAnnotated 5 on_two_sheets
together-legal = (sheet_examples_hold.alone.0.legal, (sheet_examples_hold.alone.1.legal, tt))

together-close : ClosureOf 5 Rule on_two_sheets together_closed
unfolding is_drawn_by
together-close = closure_with basic_set (by (r3b 11 12 10) ∷ []) together-legal refl refl

together-sound : SoundRows 5 on_two_sheets
unfolding is_ordered
together-sound = sound-holds 5 on_two_sheets refl together-legal

only-together : OnlyTogether
unfolding value_at has
only-together = record {
  together = (exactly 3 (omega arith) (triple 10 type 12)).0 refl;
  alone = λ t d. sym (agree-by 1 1 together_closed on_two_sheets refl refl t) ∙ (exactly 1 (omega arith) t).1 d;
}
  where
    exactly : (k : ℕ) → k < 64 → ExactlyDrawn Rule (has_bit k) on_two_sheets together_closed
    exactly k h = bit_exactly_drawn Rule rules-keep_legal rules-decided 5 sheets-read k h on_two_sheets together_closed together-sound together-close

pub year_examples_hold : Every year_examples
year_examples_hold = (in_two_years, (alike_in_2005, (two_base_years, (by_two_steps, (only-together, tt)))))
