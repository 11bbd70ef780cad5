-- Closing: what is refused, and what a done closing leaves.
use Rattle.std.specs.Prelude.{◌≡◌, true, List, ℕ, ◌≤◌, ◌<◌, length}
use Rattle.term.specs.Refusal.{verdict, done, first}
use Rattle.ruleset.specs.RuleSet.{is_rule_set}
use Rattle.table.specs.Rows.{Row, Lanes, rows_of, zeroed, filled}
use Rattle.table.specs.Sound.{Sound}
use Rattle.rhodf.specs.Rules.{rules_of}
use Rattle.rhodf.specs.Closure.{ClosureOf}
use Rattle.closing.specs.Checks.{close_checks}

pub record Closing (kind rules : ℕ) (l : Lanes) (n : ℕ) (m : Lanes) (number place count : ℕ) : Type 0 where
  -- "Other refusals of closing change nothing"
  pub refused : 0 < (first (close_checks kind rules l n)).number
      → (verdict number place ≡ first (close_checks kind rules l n)) × (m ≡ l) × (count ≡ n)
  -- "After closing .., rows past the count are all zero"; closed is "read with the table's rule set"
  pub fits : is_rule_set rules ≡ true → Sound kind l n → (closed : List Row) → ClosureOf kind (rules_of rules) (rows_of l n) closed → length closed ≤ length l.subj
      → (verdict number place ≡ done) × (m ≡ filled closed l) × (count ≡ length closed)
  -- "12: no room"; "12 from closing, leave all rows zero and count 0"
  pub no_room : is_rule_set rules ≡ true → Sound kind l n → (closed : List Row) → ClosureOf kind (rules_of rules) (rows_of l n) closed → length l.subj < length closed
      → (verdict number place ≡ verdict 12 0) × (m ≡ zeroed l) × (count ≡ 0)
