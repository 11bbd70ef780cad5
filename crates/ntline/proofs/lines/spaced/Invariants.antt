-- The invariant: all white up to here.
use Rattle.ntline.proofs.Blanks.{WhiteTo}
use Rattle.ntline.proofs.lines.spaced.Given as goal

abbrev pub invariant-loop-i : goal.invariant-loop-i
invariant-loop-i l = WhiteTo l.b l.at l.end l.i
