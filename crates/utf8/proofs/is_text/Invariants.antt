-- The loop's invariant: the whole is a text if what is left of it is.
use mathlib.Core.Path.{◌≡◌}
use Prim.Native.Nat.{◌-◌}
use lib.Seq.{slice}
use Rattle.utf8.specs.Texts.{is_text_lem}
use Rattle.utf8.proofs.is_text.Given as goal

abbrev pub invariant-loop-i : goal.invariant-loop-i
invariant-loop-i l = is_text_lem (slice l.at l.end l.b) ≡ is_text_lem (slice l.i l.end l.b)

abbrev pub decreases-loop-i : goal.decreases-loop-i
decreases-loop-i l = l.end - l.i
