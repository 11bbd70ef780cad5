use Rattle.std.proofs.Common.{arith, refl}
use Rattle.field.proofs.Writing.{written_part}
use Rattle.printing.proofs.lines.put.Goals as goal

pub returns : goal.returns
returns c = record { bytes_are = written_part c.args.out.now c.args.at _ _ c.args.text.now c.copy_from_slice.ensures.after (omega arith); end_is = refl }
