-- The mask of the lower 14 bits is the remainder by 16384.
use lib.Bits.{and_mask}
use Rattle.term.proofs.number_of.Goals as goal

pub returns : goal.returns
returns c = and_mask c.args.term 14
