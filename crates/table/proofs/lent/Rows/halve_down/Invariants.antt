-- The invariant: rows below low are below the key, and row high is not.
use Prim.Native.Nat.{◌-◌}
use Rattle.table.specs.Places.{Between}
use Rattle.table.proofs.lent.Rows.halve_down.Given as goal

abbrev pub invariant-loop-low : goal.invariant-loop-low
invariant-loop-low l = Between l.self.subj.now l.self.pred.now l.self.obj.now l.self.count l.key l.low l.high

abbrev pub decreases-loop-low : goal.decreases-loop-low
decreases-loop-low l = l.high - l.low
