-- Check by check, in the order of the list.
use Rattle.std.proofs.Common.{sym, ◌∙◌, arith}
use Rattle.annotation.specs.Numbered.{kind_number}
use Rattle.annotation.proofs.Known.{kind-passes}
use Rattle.table.specs.Lent.{lanes_seen}
use Rattle.table.proofs.Judging.{table-by_lanes, table-by_count, table-by_rows}
use Rattle.table.proofs.lent.Rows.check.Goals as goal

pub returns-then-is_unfit : goal.returns-then-is_unfit
returns-then-is_unfit c =
    rw c.at.ensures
    (table-by_lanes (kind_number c.args.kind) (lanes_seen c.args.self.now) c.args.self.now.count 0 (kind-passes c.args.kind) (omega arith) (sym c.is_unfit.ensures ∙ c.if-is_unfit.true))

pub returns-then-self : goal.returns-then-self
returns-then-self c =
    rw c.at-then-self.ensures
    (table-by_count (kind_number c.args.kind) (lanes_seen c.args.self.now) c.args.self.now.count 0 (kind-passes c.args.kind) (omega arith) (sym c.is_unfit.ensures ∙ c.if-is_unfit.false) c.if-self.true)

pub returns : goal.returns
returns c =
    c.check_rows.ensures ∙ table-by_rows (kind_number c.args.kind) (lanes_seen c.args.self.now) c.args.self.now.count 0 (kind-passes c.args.kind) (omega arith) (sym c.is_unfit.ensures ∙ c.if-is_unfit.false) c.if-self.false
