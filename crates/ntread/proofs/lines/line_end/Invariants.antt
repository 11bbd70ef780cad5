-- The invariant: no CR and no LF from `at` up to i.
use Rattle.ntread.specs.Inner.{Inside}
use Rattle.ntread.proofs.lines.line_end.Given as goal

abbrev pub invariant-loop-i : goal.invariant-loop-i
invariant-loop-i l = Inside l.b l.at l.i
