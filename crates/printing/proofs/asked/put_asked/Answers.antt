-- The line, and the answers behind it.
use Prim.Native.Nat.{◌*◌}
use native.Mathlib.Omega.{arith}
use Rattle.ground.specs.Lists.{tab}
use Rattle.printing.specs.Text.{bytes_of, asked_line}
use Rattle.printing.specs.Laid.{answers_in}
use Rattle.printing.proofs.Laying.{laid_then, asked-long}
use Rattle.printing.proofs.asked.put_asked.Goals as goal

pub put_answers-requires : goal.put_answers-requires
unfolding bytes_of tab
put_answers-requires c =
    let the-pre = c.requires in
    let the-put-line = c.put_line-answers in
    let the-args = c.args in
    (the-pre.0, the-pre.1, omega (arith, the-pre.2, the-put-line.ensures.end_is, the-put-line.auto.out, asked-long the-args.number the-args.place the-args.count the-args.looks))

pub returns : goal.returns
unfolding bytes_of tab
returns c =
    let the-args = c.args in
    let the-pre = c.requires in
    let the-put-line = c.put_line-answers in
    let the-put-answers = c.put_answers in
    laid_then the-args.out.now _ _ 0 _ _ (asked_line the-args.number the-args.place the-args.count the-args.looks) (answers_in the-args.terms.now the-args.anns.now the-args.count) 90 (the-args.count * 264)
    (omega (arith, the-pre.2)) (asked-long the-args.number the-args.place the-args.count the-args.looks) the-put-line.ensures the-put-answers.ensures
