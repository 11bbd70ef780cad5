use Rattle.names.proofs.Hashing.{four_more}
use Rattle.names.proofs.hash.mixed_fours.Goals as goal

pub loop-left-preserved : goal.loop-left-preserved
loop-left-preserved c = four_more c.args.word.now c.loop-left.left.now c.loop-left.h _ c.loop-left.invariant c.in-len4-up.len_at_least c.mixed_four-h.ensures.0
