-- Character by character.
use native.Mathlib.Omega.{arith}
use Rattle.nttext.proofs.Runs.{unit_start, unit_over}
use Rattle.nttext.proofs.texts.unit.Goals as goal

pub loop-s-init : goal.loop-s-init
loop-s-init c = unit_start c.args.s.b.now c.args.from c.args.s.to c.args.s.quoted _ c.behind-k.ensures (omega (arith, c.requires.0))

pub loop-s-smaller : goal.loop-s-smaller
loop-s-smaller c = omega (arith, c.advance-k.ensures.later, c.advance-k.ensures.within)

pub returns-else-k-s : goal.returns-else-k-s
returns-else-k-s c = unit_over c.args.s.b.now c.args.from c.args.s.to c.args.s.quoted _ c.loop-s.invariant c.requires.0 c.if-k-s.false
