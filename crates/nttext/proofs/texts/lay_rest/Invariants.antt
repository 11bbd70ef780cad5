-- By what holds on the way: what is laid so far, and what is left.
use Prim.Native.Nat.{◌-◌}
use mathlib.Core.Bool.{true}
use Rattle.nttext.specs.Inner.{FrontLaid}
use Rattle.nttext.proofs.texts.lay_rest.Given as goal

abbrev pub invariant-loop-front : goal.invariant-loop-front
invariant-loop-front l = FrontLaid l.s.b.now l.from l.s.to l.s.quoted l.initial.out l.out l.at true l.front.at l.front.to

abbrev pub decreases-loop-front : goal.decreases-loop-front
decreases-loop-front l = l.s.to - l.front.at
