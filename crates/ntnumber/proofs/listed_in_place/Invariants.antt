-- The loop's invariant: what is looked for is not among the first i entries.
use Rattle.names.specs.Read.{lanes_read}
use Rattle.ntnumber.proofs.Listed.{Left}
use Rattle.ntnumber.proofs.listed_in_place.Given as goal

abbrev pub invariant-loop-i : goal.invariant-loop-i
invariant-loop-i l = Left l.b l.end l.t (lanes_read l.l) l.l.count l.i
