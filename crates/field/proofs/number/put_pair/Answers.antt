-- The two bytes.
use Rattle.std.proofs.Common.{arith}
use Rattle.field.proofs.Writing.{written_part}
use Rattle.field.proofs.number.put_pair.Goals as goal

pub returns : goal.returns
returns c = written_part c.args.bytes.now c.args.at _ _ _ c.copy_from_slice.ensures.after (omega arith)
