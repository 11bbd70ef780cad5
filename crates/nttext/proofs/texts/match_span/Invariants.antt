-- By what holds on the way: what is matched so far, and what is left.
use Prim.Native.Nat.{◌-◌}
use Rattle.nttext.proofs.Matching.{MatchLoop}
use Rattle.nttext.proofs.texts.match_span.Given as goal

abbrev pub invariant-loop-i : goal.invariant-loop-i
invariant-loop-i l = MatchLoop l.s.b.now l.from l.s.to l.s.quoted l.out l.at l.end l.i l.last

abbrev pub decreases-loop-i : goal.decreases-loop-i
decreases-loop-i l = l.s.to - l.i
