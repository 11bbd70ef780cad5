-- The invariant: no row passed is refused, so the answer is that of the rows left.
use Rattle.std.proofs.Common.{◌≡◌, ◌-◌}
use Rattle.term.specs.Refusal.{first}
use Rattle.annotation.specs.Numbered.{kind_number}
use Rattle.table.specs.Lent.{lanes_seen}
use Rattle.table.specs.Checks.{rows_checks}
use Rattle.table.proofs.lent.Rows.check_rows.Given as goal

abbrev pub invariant-loop-i : goal.invariant-loop-i
invariant-loop-i l =
    first (rows_checks (kind_number l.kind) (lanes_seen l.self) 0 l.self.count) ≡ first (rows_checks (kind_number l.kind) (lanes_seen l.self) l.i (l.self.count - l.i))
