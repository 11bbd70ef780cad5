-- The loop's invariant: all that is not left is mixed in.
use lib.ListN.{length}
use Rattle.names.specs.Hashed.{MixedIn}
use Rattle.names.proofs.hash.mixed_fours.Given as goal

abbrev pub invariant-loop-left : goal.invariant-loop-left
invariant-loop-left l = MixedIn l.word l.left l.h

abbrev pub decreases-loop-left : goal.decreases-loop-left
decreases-loop-left l = length l.left
