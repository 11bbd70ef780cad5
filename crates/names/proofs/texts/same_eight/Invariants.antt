-- The loop's invariant: whether the first k bytes are the same.
use Rattle.std.proofs.Common.{◌↔◌, IsTrue}
use Rattle.names.specs.Finding.{SameIn}
use Rattle.names.proofs.texts.same_eight.Given as goal

abbrev pub invariant-loop-k : goal.invariant-loop-k
invariant-loop-k l = IsTrue l.same ↔ SameIn l.text l.at l.word l.at l.k
