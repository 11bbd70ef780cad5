-- The invariant: the slots are right for the entries passed, from the last on.
use mathlib.Core.Path.{◌≡◌}
use lib.ListN.{length}
use Rattle.ntwrite.proofs.Slots.{FilledFrom}
use Rattle.ntwrite.proofs.index.fill.Given as goal

abbrev pub invariant-loop-i : goal.invariant-loop-i
invariant-loop-i l = (length l.slots ≡ 2048) × FilledFrom l.slots l.terms l.names l.i
