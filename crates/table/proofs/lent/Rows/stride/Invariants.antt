-- The invariant: the rows from high on are not below the key, and high is not past the start.
use Prim.Native.Nat.{◌≤◌}
use Rattle.table.specs.Places.{Between}
use Rattle.table.proofs.lent.Rows.stride.Given as goal

abbrev pub invariant-loop-high : goal.invariant-loop-high
invariant-loop-high l = (l.high ≤ l.start) × Between l.self.subj.now l.self.pred.now l.self.obj.now l.self.count l.key 0 l.high

abbrev pub decreases-loop-high : goal.decreases-loop-high
decreases-loop-high l = l.high
