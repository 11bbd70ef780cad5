-- The invariant: what is promised, of the rows passed.
use Rattle.rounds.specs.Due.{BlockAway}
use Rattle.rounds.proofs.block_has.Given as goal

abbrev pub invariant-loop-i : goal.invariant-loop-i
invariant-loop-i l = BlockAway l.rows.subj.now l.rows.pred.now l.rows.obj.now l.at l.i l.one l.any
