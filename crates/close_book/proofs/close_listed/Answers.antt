-- Refused in reading, refused in closing, or listed.
use native.Mathlib.Omega.{arith}
use Rattle.table.specs.Rows.{lanes}
use Rattle.close_book.proofs.Lists.{unread-listed, full_listed, listing-fits, closed-listed}
use Rattle.close_book.proofs.close_listed.Goals as goal

pub returns-then-head-gt0 : goal.returns-then-head-gt0
returns-then-head-gt0 c =
    let the-args = c.args in
    let the-read = c.read-head in
    let the-pre = c.requires in
    let the-if1 = c.if-head-gt0 in
    let the-put-refused = c.put_refused in
    unread-listed the-args.book.now (lanes the-args.subj.now the-args.pred.now the-args.obj.now the-args.ann.now) _ _ _ _ _ _ _ the-read.ensures the-args.out.now _ _ (the-pre)
    the-if1.true the-put-refused.ensures

pub put_refused-requires-then-closed-gt0 : goal.put_refused-requires-then-closed-gt0
put_refused-requires-then-closed-gt0 c =
    let the-pre = c.requires in
    omega (arith, the-pre)

pub returns-then-closed-gt0 : goal.returns-then-closed-gt0
returns-then-closed-gt0 c =
    let the-args = c.args in
    let the-read = c.read-head in
    let the-pre = c.requires in
    let the-if1 = c.if-head-gt0 in
    let the-close = c.close-closed in
    let the-if2 = c.if-closed-gt0 in
    let the-put-refused2 = c.put_refused-then-closed-gt0 in
    full_listed the-args.book.now (lanes the-args.subj.now the-args.pred.now the-args.obj.now the-args.ann.now) _ _ _ _ _ _ _ the-read.ensures the-args.out.now _ _ (the-pre)
    the-if1.false _ _ _ _ the-close.ensures the-if2.true the-put-refused2.ensures

pub put_closed-requires : goal.put_closed-requires
put_closed-requires c =
    let the-args = c.args in
    let the-read = c.read-head in
    let the-pre = c.requires in
    let the-if1 = c.if-head-gt0 in
    let the-close = c.close-closed in
    let the-if2 = c.if-closed-gt0 in
    listing-fits the-args.book.now (lanes the-args.subj.now the-args.pred.now the-args.obj.now the-args.ann.now) _ _ _ _ _ _ _ the-read.ensures the-args.out.now the-args.out.now 0 (the-pre)
    the-if1.false _ _ _ _ the-close.ensures the-if2.false

pub returns : goal.returns
returns c =
    let the-args = c.args in
    let the-read = c.read-head in
    let the-pre = c.requires in
    let the-if1 = c.if-head-gt0 in
    let the-close = c.close-closed in
    let the-if2 = c.if-closed-gt0 in
    let the-put-closed = c.put_closed in
    closed-listed the-args.book.now (lanes the-args.subj.now the-args.pred.now the-args.obj.now the-args.ann.now) _ _ _ _ _ _ _ the-read.ensures the-args.out.now _ _ (the-pre)
    the-if1.false _ _ _ _ the-close.ensures the-if2.false the-put-closed.ensures
