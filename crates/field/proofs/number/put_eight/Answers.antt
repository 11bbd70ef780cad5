-- Eight bytes, the highest first.
use Rattle.std.proofs.Common.{arith, sym, ◌∙◌}
use Rattle.field.proofs.Writing.{written_part, eight_are, length-eight}
use Rattle.field.proofs.number.put_eight.Goals as goal

pub returns : goal.returns
returns c =
    let n = c.args.n in
    written_part c.args.bytes.now c.args.at _ _ _ (c.copy_from_slice.ensures.after ∙ c.to_be_bytes.ensures ∙ sym (eight_are n)) (omega (arith, length-eight n))
