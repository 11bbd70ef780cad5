-- The invariant: what is promised, of the rows passed.
use Rattle.std.proofs.Common.{◌-◌}
use Rattle.rounds.specs.Due.{PastOf}
use Rattle.rounds.proofs.past_blocks.Given as goal

abbrev pub invariant-loop-i : goal.invariant-loop-i
invariant-loop-i l = PastOf l.rows.subj.now l.rows.pred.now l.rows.obj.now l.from l.one l.i

abbrev pub decreases-loop-i : goal.decreases-loop-i
decreases-loop-i l = l.rows.count - l.i
