-- The invariant: the rows passed are not due.
use Rattle.rounds.specs.Due.{EachFrom, StillAt}
use Rattle.rounds.proofs.last_due.Given as goal

abbrev pub invariant-loop-i : goal.invariant-loop-i
invariant-loop-i l = EachFrom (StillAt l.rows.subj.now l.rows.pred.now l.rows.obj.now l.due) l.i l.from
