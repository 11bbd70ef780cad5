-- By what holds on the way: the state so far and the characters left give the state behind all of them.
use Prim.Native.Nat.{◌-◌}
use Rattle.nttext.proofs.Behind.{BareLoop}
use Rattle.nttext.proofs.legal.state_behind.Given as goal

abbrev pub invariant-loop-i : goal.invariant-loop-i
invariant-loop-i l = BareLoop l.text l.from l.to l.initial.state l.state l.i

abbrev pub decreases-loop-i : goal.decreases-loop-i
decreases-loop-i l = l.to - l.i
