-- What closing refuses of a table and a rule set, in its order.
use Rattle.std.specs.Prelude.{List, ◌++◌, ℕ}
use Rattle.term.specs.Refusal.{Check}
use Rattle.ruleset.specs.RuleSet.{rule_set_checks}
use Rattle.annotation.specs.Kinds.{kind_checks}
use Rattle.table.specs.Rows.{Lanes}
use Rattle.table.specs.Checks.{table_checks}

-- "36 rule set unknown, .. in closing after 4": 4, 36, and then the table's checks, the first of which is 4 again and has passed by then
abbrev pub close_checks : ℕ → ℕ → Lanes → ℕ → List Check
close_checks kind rules l n = kind_checks kind 0 ++ (rule_set_checks rules 0 ++ table_checks kind l n)
