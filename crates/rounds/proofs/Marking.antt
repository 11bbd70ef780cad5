-- The next row that is due: by the set going up, and by one subject. Assumes nothing.
use mathlib.Core.List.{List}
use mathlib.Core.Logic.{◌⊎◌, inl, inr, ⊎_elim}
use Prim.Native.Nat.{ℕ, ◌≤◌, ◌<◌}
use native.Mathlib.Omega.{arith}
use Rattle.std.proofs.Common.{Option, Some, None, MatchOption}
use Rattle.table.proofs.Ordering.{Tri, less, same, more, tri}
use Rattle.rounds.specs.Due.{EachFrom, Next, NextDue, NextOf, Sought}

-- row by row
module _ (subj pred obj : List ℕ) where
  -- what is to come, going up to row `at`
  up-to : {P : ℕ → Type 0} {from at : ℕ} → EachFrom P from at → (j : ℕ) → from ≤ j → (at ≤ j) ⊎ P j
  up-to {P} {from} {at} s j h = go (tri j at)
    where
      go : Tri j at → (at ≤ j) ⊎ P j
      go (less z) = inr (s j h z)
      go (same z) = inl (omega arith)
      go (more z) = inl (omega arith)

  -- the next row that is due, going up, or by one subject
  pub sought_one : (one n from : ℕ) (due : List ℕ) (r : Option ℕ) → NextOf subj pred obj from n one r → Sought subj pred obj 2 one n from due r
  sought_one one n from due None s = λ j h t. record { by_set = λ w. absurd (omega arith); by_one = λ _. s j (t.up (omega arith)) h }
  sought_one one n from due (Some at) s = record {
    there = s.there;
    reached = record { up = λ _. s.reached; down = λ e. absurd (omega arith) };
    rest = λ j h t. ⊎_elim (λ q. inl (record { up = λ _. q; down = λ e. absurd (omega arith) }))
        (λ q. inr (record { by_set = λ w. absurd (omega arith); by_one = λ _. q })) (up-to s.before j (t.up (omega arith)));
  }

  pub sought_up : (one n from : ℕ) (due : List ℕ) (r : Option ℕ) → NextDue subj pred obj from n due r → Sought subj pred obj 1 one n from due r
  sought_up one n from due None s = λ j h t. record { by_set = λ _. s j (t.up (omega arith)) h; by_one = λ w. absurd (omega arith) }
  sought_up one n from due (Some at) s = record {
    there = s.there;
    reached = record { up = λ _. s.reached; down = λ e. absurd (omega arith) };
    rest = λ j h t. ⊎_elim (λ q. inl (record { up = λ _. q; down = λ e. absurd (omega arith) }))
        (λ q. inr (record { by_set = λ _. q; by_one = λ w. absurd (omega arith) })) (up-to s.before j (t.up (omega arith)));
  }

-- what `find` over a range says
pub next-found : (P : ℕ → Type 0) (from n : ℕ) (r : Option ℕ)
    → MatchOption r (EachFrom P from n) (λ i. (from ≤ i) × (i < n) × Unit {0} × EachFrom P from i) → Next P from n r
next-found P from n None h = h
next-found P from n (Some at) h = record { reached = h.0; there = h.1; before = h.3 }
