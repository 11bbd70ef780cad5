-- The invariant: behind its first letter a scheme so far.
use Prim.Native.Nat.{◌+◌}
use Rattle.ntline.specs.declared.lexing.State.TheVariants.{Iri}
use Rattle.ntline.specs.Runs.{RunTo}
use Rattle.ntline.proofs.runs.scheme_run.Given as goal

abbrev pub invariant-loop-i : goal.invariant-loop-i
invariant-loop-i l = RunTo (Iri 1 0 0) l.b (l.at + 1) l.end l.i
