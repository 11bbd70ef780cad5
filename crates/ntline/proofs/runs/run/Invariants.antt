-- The bytes so far pass.
use Rattle.std.proofs.Common.{true, ℕ, ◌+◌, ◌<◌, get_or}
use Rattle.ntline.proofs.runs.run.Given as goal

abbrev pub invariant-loop-i : goal.invariant-loop-i
invariant-loop-i g l = (k : ℕ) → k < l.i → goal.F-post g l.passes (get_or l.b (l.at + k) 0) true
