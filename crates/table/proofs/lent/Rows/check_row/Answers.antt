-- By the triple, then by the order.
use Rattle.std.proofs.Common.{arith}
use Rattle.std.proofs.lemmas.Result.{err_from_is_err_and}
use Rattle.annotation.specs.Numbered.{kind_number}
use Rattle.term.proofs.Handing.{refusal_numbered}
use Rattle.table.specs.Lent.{lanes_seen}
use Rattle.table.proofs.Judging.{row-by_triple, row-by_order, row-clear}
use Rattle.table.proofs.lent.Rows.check_row.Goals as goal

pub returns-in_err-check : goal.returns-in_err-check
returns-in_err-check c =
    let p = err_from_is_err_and c.from_residual.result c.from_residual.ensures.1 in
    rw (p.1, p.2) (row-by_triple (kind_number c.args.kind) (lanes_seen c.args.self.now) c.args.i _ (let e = rw c.row.ensures at c.in_err-check.ensures in e) (refusal_numbered c.in_err-check.field-0.0))

pub returns-then-not_above : goal.returns-then-not_above
returns-then-not_above c =
    row-by_order (kind_number c.args.kind) (lanes_seen c.args.self.now) c.args.i 0 (let e = rw c.row.ensures at c.in_ok-check.ensures in e) (omega arith)
    _ c.not_above.ensures c.if-not_above.true

pub returns : goal.returns
returns c =
    row-clear (kind_number c.args.kind) (lanes_seen c.args.self.now) c.args.i 0 (let e = rw c.row.ensures at c.in_ok-check.ensures in e) (omega arith)
    _ c.not_above.ensures c.if-not_above.false
