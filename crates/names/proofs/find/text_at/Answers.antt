-- Its ends fit, or they fall or go past the lane.
use mathlib.Core.Path.{sym, ◌∙◌}
use Prim.Native.Nat.{◌-◌}
use native.Mathlib.Omega.{arith}
use lib.ListN.{drop, length-drop}
use lib.Seq.{length-take-le}
use Rattle.names.proofs.Entries.{part_is, text-fits, text-falls, text-past}
use Rattle.names.proofs.find.text_at.Goals as goal
use Rattle.names.proofs.find.text_at.Goals.{else-from-to-via-then-from-to+else-to-text, else-from-to-via-else-from-to}

pub returns-then-to-text : goal.returns-then-to-text
returns-then-to-text c =
    let from = c.start_of-from.result in
    let to = c.from-to.result in
    let long = length-drop from c.args.text.now in (
      part_is c.args.text.now from to c.if-from-to.true
          ∙ rw (c.start_of-from.ensures, c.from-to.ensures) (sym (text-fits c.args.ends.now c.args.text.now c.args.i (omega (arith, c.start_of-from.ensures, c.from-to.ensures)) (omega (arith, c.from-to.ensures)))),
      omega (arith, length-take-le (to - from) (drop from c.args.text.now) (omega arith)),
    )

pub returns-else-from-to : goal.returns-else-from-to
returns-else-from-to c =
    let to = c.from-to.ensures in
    let start = c.start_of-from.ensures in (
      sym (elim c.else-from-to.branch [
        | else-from-to-via-then-from-to+else-to-text w ↦ text-past c.args.ends.now c.args.text.now c.args.i (omega (arith, w.if-to-text.false))
        | else-from-to-via-else-from-to w ↦ text-falls c.args.ends.now c.args.text.now c.args.i (omega (arith, w.if-from-to.false))
      ]),
      omega arith,
    )
