-- The loop's invariant: the entries before i are judged.
use mathlib.Core.Path.{◌≡◌}
use lib.ListN.{length}
use Rattle.names.specs.Names.{lanes_of}
use Rattle.ntriples.proofs.Rows.{MarkedTo}
use Rattle.ntriples.proofs.judge.Given as goal

abbrev pub invariant-loop-i : goal.invariant-loop-i
invariant-loop-i l = (length l.marks ≡ 512) × MarkedTo (lanes_of l.terms l.ends l.text) l.i l.marks
