-- The invariant: where none was low so far, none of them ends a line.
use mathlib.Core.Path.{◌≡◌}
use mathlib.Core.Bool.{false}
use Prim.Native.Nat.{ℕ, ◌+◌, ◌<◌}
use lib.ListN.{get_or}
use Rattle.ntread.specs.Reading.{is_eol}
use Rattle.ntread.proofs.lines.has_low.Given as goal

abbrev pub invariant-loop-k : goal.invariant-loop-k
invariant-loop-k l = l.low ≡ false → (j : ℕ) → j < l.k → is_eol (get_or l.b (l.at + j) 0) ≡ false
