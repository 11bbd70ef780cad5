-- The invariant: where all were plain so far, each of them is.
use Rattle.std.proofs.Common.{◌≡◌, true, ℕ, ◌+◌, ◌<◌, get_or}
use Rattle.ntline.specs.Runs.{plain_byte}
use Rattle.ntline.proofs.runs.all_plain.Given as goal

abbrev pub invariant-loop-x : goal.invariant-loop-x
invariant-loop-x l = l.all ≡ true → (j : ℕ) → j < l.x-index → plain_byte l.blank (get_or l.b (l.at + j) 0) ≡ true
