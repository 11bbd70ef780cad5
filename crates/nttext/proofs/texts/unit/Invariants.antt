-- By what holds on the way: nothing is to be laid yet.
use Prim.Native.Nat.{◌-◌}
use Rattle.nttext.proofs.Runs.{UnitLoop}
use Rattle.nttext.proofs.texts.unit.Given as goal

abbrev pub invariant-loop-s : goal.invariant-loop-s
invariant-loop-s l = UnitLoop l.s.b.now l.from l.s.to l.s.quoted l.k

abbrev pub decreases-loop-s : goal.decreases-loop-s
decreases-loop-s l = l.s.to - l.k.at
