-- The first k bytes of the run are the same.
use Rattle.names.specs.Finding.{SameIn}
use Rattle.nttext.proofs.texts.same_run.Given as goal

abbrev pub invariant-loop-k : goal.invariant-loop-k
invariant-loop-k l = SameIn l.s.b.now l.from l.out l.at l.k
