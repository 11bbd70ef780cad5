-- The invariant: no CR and no LF up to here.
use Prim.Native.Nat.{◌-◌}
use lib.ListN.{length}
use Rattle.ntread.specs.Inner.{Inside}
use Rattle.ntread.proofs.lines.high_blocks.Given as goal

abbrev pub invariant-loop-to : goal.invariant-loop-to
invariant-loop-to l = Inside l.b l.at l.to

abbrev pub decreases-loop-to : goal.decreases-loop-to
decreases-loop-to l = length l.b - l.to
