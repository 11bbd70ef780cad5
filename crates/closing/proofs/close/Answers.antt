-- No such kind or rule set.
use Rattle.term.proofs.Handing.{refusal_numbered}
use Rattle.table.specs.Rows.{lanes}
use Rattle.closing.proofs.Whole.{closing_refused}
use Rattle.closing.proofs.close.Goals as goal

pub returns-in-Err : goal.returns-in-Err
returns-in-Err c =
    let l = lanes c.args.subj.now c.args.pred.now c.args.obj.now c.args.ann.now in
    rw c.number.ensures (closing_refused (c.in-Err.ensures l c.args.count) (refusal_numbered c.in-Err.e))
