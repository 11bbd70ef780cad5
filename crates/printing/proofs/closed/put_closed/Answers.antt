-- The header, and the rows behind it.
use native.Mathlib.Omega.{arith}
use Rattle.ground.specs.Lists.{tab}
use Rattle.table.specs.Rows.{lanes, row_at}
use Rattle.printing.specs.Text.{bytes_of}
use Rattle.printing.proofs.Laying.{closed-long, closed-laid}
use Rattle.printing.proofs.closed.put_closed.Goals as goal

pub put_rows-requires : goal.put_rows-requires
unfolding bytes_of tab
put_rows-requires c =
    let the-pre = c.requires in
    let the-put-line = c.put_line-rows in
    let the-args = c.args in
    (the-pre.0, omega (arith, the-pre.1, the-put-line.ensures.end_is, the-put-line.auto.out, closed-long the-args.kind the-args.base the-args.count))

pub returns : goal.returns
unfolding bytes_of tab
returns c =
    let the-args = c.args in
    let the-pre = c.requires in
    let the-put-line = c.put_line-rows in
    let the-put-rows = c.put_rows in
    closed-laid the-args.out.now _ _ _ _ the-args.kind the-args.base the-args.count (row_at (lanes the-args.subj.now the-args.pred.now the-args.obj.now the-args.ann.now))
    the-pre.1 the-put-line.ensures the-put-rows.ensures
