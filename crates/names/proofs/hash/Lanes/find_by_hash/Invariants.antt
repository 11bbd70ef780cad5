use Rattle.names.specs.Names.{entries_of}
use Rattle.names.specs.Read.{lanes_read}
use Rattle.names.proofs.Hashing.{Chain}
use Rattle.names.proofs.hash.Lanes.find_by_hash.Given as goal

abbrev pub invariant-loop-p : goal.invariant-loop-p
invariant-loop-p l = Chain (entries_of (lanes_read l.self) l.self.count) l.sort l.word l.p l.found

abbrev pub decreases-loop-p : goal.decreases-loop-p
decreases-loop-p l = l.p
