use native.Mathlib.Omega.{arith}
use Rattle.table.specs.Rows.{lanes, row_at}
use Rattle.printing.specs.Text.{line_of}
use Rattle.printing.proofs.Laying.{laid-first, next_fits, laid_next, row-long}
use Rattle.printing.proofs.closed.put_rows.Goals as goal

pub loop-i-init : goal.loop-i-init
loop-i-init c =
    let a = c.args in
    laid-first line_of (row_at (lanes a.subj.now a.pred.now a.obj.now a.ann.now)) a.out.now a.at 0

pub put_row-next-requires : goal.put_row-next-requires
put_row-next-requires c =
    let a = c.args in
    let it = c.loop-i in
    next_fits line_of (row_at (lanes a.subj.now a.pred.now a.obj.now a.ann.now)) a.out.now it.out a.at it.next it.i 39
    (omega (arith, c.requires.1, c.loop-i-test.true)) it.invariant (row-long _ _ _ _ (omega (arith, c.type_inv.subj it.i)) (omega (arith, c.type_inv.pred it.i)) (omega (arith, c.type_inv.obj it.i)))

pub loop-i-preserved : goal.loop-i-preserved
loop-i-preserved c =
    let a = c.args in
    let it = c.loop-i in
    laid_next line_of (row_at (lanes a.subj.now a.pred.now a.obj.now a.ann.now)) a.out.now it.out a.at it.next it.i 39
    (omega (arith, c.requires.1, c.loop-i-test.true)) it.invariant (row-long _ _ _ _ (omega (arith, c.type_inv.subj it.i)) (omega (arith, c.type_inv.pred it.i)) (omega (arith, c.type_inv.obj it.i)))
    _ _ c.put_row-next.ensures
