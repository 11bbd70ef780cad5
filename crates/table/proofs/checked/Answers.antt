-- No such kind, or as the rows say.
use Rattle.std.proofs.Common.{arith}
use Rattle.std.proofs.lemmas.Result.{err_from_is_err_and}
use Rattle.annotation.proofs.Known.{unknown_is4}
use Rattle.table.specs.Lent.{lanes_seen}
use Rattle.table.proofs.Judging.{table-by_kind}
use Rattle.table.proofs.checked.Goals as goal

pub returns-in_err-kind : goal.returns-in_err-kind
returns-in_err-kind c =
    let p = err_from_is_err_and c.from_residual.result c.from_residual.ensures.1 in
    let e = c.in_err-kind.ensures in
    rw (p.1, p.2, e.0) (table-by_kind c.args.kind (lanes_seen c.args.rows.now) c.args.rows.now.count 4 (unknown_is4 c.args.kind e.1) (omega arith))
