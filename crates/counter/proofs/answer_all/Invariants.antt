-- Between two turns the table is ready.
use Rattle.table.specs.Rows.{lanes}
use Rattle.counter.specs.Turns.{Ready}
use Rattle.counter.proofs.answer_all.Given as goal

abbrev pub invariant-loop : goal.invariant-loop
invariant-loop g l = Ready l.kind (lanes l.subj l.pred l.obj l.ann) l.rows
