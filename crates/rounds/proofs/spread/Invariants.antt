-- The invariant: what is promised, of the rows passed.
use Rattle.rounds.specs.Due.{Spread}
use Rattle.rounds.proofs.spread.Given as goal

abbrev pub invariant-loop-i : goal.invariant-loop-i
invariant-loop-i l = Spread l.rows.subj.now l.rows.pred.now l.rows.obj.now l.i l.initial.set l.set
