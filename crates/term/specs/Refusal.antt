-- Numbers given back. An order is a list of checks, and the number and place given are those of the first whose condition holds.
use Rattle.std.specs.Prelude.{Bool, cond, List, [], ◌∷◌, ℕ}
use Rattle.term.specs.declared.refusal.Verdict.{Verdict}

abbrev pub verdict : ℕ → ℕ → Verdict
verdict number place = record { number = number; place = place }

-- "0 is done. Place is 0 unless named."
abbrev pub done : Verdict
done = verdict 0 0

-- a line of the table of numbers: when, the number, the place
pub record Check : Type 0 where
  pub when : Bool
  pub number : ℕ
  pub place : ℕ

abbrev pub refuse : Bool → ℕ → ℕ → Check
refuse when number place = record { when = when; number = number; place = place }

-- "exactly when it is the first in the list's order whose condition holds"
unfoldable pub first : List Check → Verdict
first [] = done
first (c ∷ cs) = cond c.when (verdict c.number c.place) (first cs)
