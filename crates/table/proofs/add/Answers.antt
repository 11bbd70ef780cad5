-- No such kind; else as the table's own adding.
use Rattle.std.proofs.Common.{arith, lit<}
use Rattle.annotation.proofs.Known.{unknown_is4}
use Rattle.table.specs.Rows.{lanes, row}
use Rattle.table.proofs.Judging.{table-by_kind}
use Rattle.table.proofs.Adds.{add_by_table}
use Rattle.table.proofs.add.Goals as goal

pub returns-in_default : goal.returns-in_default
returns-in_default c =
    let l = lanes c.args.subj.now c.args.pred.now c.args.obj.now c.args.ann.now in
    rw c.number.ensures
    (add_by_table c.args.kind (row c.args.s c.args.p c.args.o c.args.a) l c.args.count _ (table-by_kind c.args.kind l c.args.count 4 (unknown_is4 c.args.kind c.in_default.ensures.1) (omega arith)) (lit< tt))
