use native.Mathlib.Omega.{arith}
use lib.ListN.{length-set}
use Rattle.ntwrite.proofs.Slots.{slot-filled_at, all_filled}
use Rattle.ntwrite.proofs.index.fill.Goals as goal

pub loop-i-init : goal.loop-i-init
loop-i-init c = (c.requires.0, λ k from below. absurd (omega arith))

pub loop-i-preserved : goal.loop-i-preserved
loop-i-preserved c = (
  simp length-set c.loop-i.invariant.0,
  slot-filled_at c.loop-i.slots c.args.terms.now c.args.names c.loop-i.i c.slot_of.result c.loop-i-test.true c.slot_of.ensures.0 c.loop-i.invariant.0 c.loop-i.invariant.1,
)

pub returns : goal.returns
returns c = all_filled c.loop-i.slots c.args.terms.now c.args.names c.loop-i.i c.loop-i-test.false c.loop-i.invariant.0 c.loop-i.invariant.1
