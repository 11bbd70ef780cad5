-- Those before i are counted.
use Rattle.names.specs.Names.{entries_of}
use Rattle.names.specs.Read.{lanes_read}
use Rattle.names.proofs.Hashing.{Counting}
use Rattle.names.proofs.hash.Lanes.count_of.Given as goal

abbrev pub invariant-loop-i : goal.invariant-loop-i
invariant-loop-i l = Counting (entries_of (lanes_read l.self) l.self.count) l.sort l.i l.count
