-- By what holds on the way: the characters seen so far and those that are left give what all of them give.
use Prim.Native.Nat.{◌-◌}
use Rattle.std.specs.Prelude.{◌≡◌}
use Rattle.ntline.specs.Kinds.{number_of, found_to}
use Rattle.ntline.specs.Inner.{Reached}
use Rattle.ntline.proofs.lexing.longest_from.Given as goal

abbrev pub invariant-loop-i : goal.invariant-loop-i
invariant-loop-i l = Reached l.b l.at l.end l.state (number_of l.last.kind) l.last.to l.i × (l.last.to ≡ found_to l.at l.last)

abbrev pub decreases-loop-i : goal.decreases-loop-i
decreases-loop-i l = l.end - l.i
