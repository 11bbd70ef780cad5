use lib.ListN.{drop_of_length-le}
use native.Mathlib.Omega.{arith}
use Rattle.names.proofs.Hashing.{byte_more, hash_is}
use Rattle.names.proofs.hash.hash.Goals as goal

pub loop-byte-preserved : goal.loop-byte-preserved
loop-byte-preserved c =
    byte_more c.args.word.now c.mixed_fours-h.result.1.now c.loop-byte.byte-index c.loop-byte.h _ c.loop-byte.invariant (omega arith) c.mixed-h.ensures.0

pub returns : goal.returns
returns c =
    hash_is c.args.word.now c.loop-byte.h (rw (drop_of_length-le c.mixed_fours-h.result.1.now {i = c.loop-byte.byte-index} (omega arith)) at c.loop-byte.invariant)
