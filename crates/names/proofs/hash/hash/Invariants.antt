-- The loop's invariant: all but the bytes to come is mixed in.
use lib.ListN.{drop}
use Rattle.names.specs.Hashed.{MixedIn}
use Rattle.names.proofs.hash.hash.Given as goal

abbrev pub invariant-loop-byte : goal.invariant-loop-byte
invariant-loop-byte l = MixedIn l.word (drop l.byte-index l.rest) l.h
