-- The loop's invariant: from i on the bytes are the same.
use Rattle.names.specs.Finding.{SameBehind}
use Rattle.names.proofs.texts.same.Given as goal

abbrev pub invariant-loop-i : goal.invariant-loop-i
invariant-loop-i l = SameBehind l.text l.word l.i

abbrev pub decreases-loop-i : goal.decreases-loop-i
decreases-loop-i l = l.i
