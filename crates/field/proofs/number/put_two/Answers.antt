-- High byte and low byte.
use Rattle.std.proofs.Common.{◌≡◌, ◌/◌, ◌%◌, arith, refl, ◌∙◌}
use Rattle.field.specs.Numbers.{two_bytes}
use Rattle.field.proofs.Writing.{written_part}
use Rattle.field.proofs.number.put_two.Goals as goal

pub returns : goal.returns
unfolding two_bytes
returns c =
    let n = c.args.n in
    let high : n % 65536 / 256 % 256 ≡ n / 256 % 256 = omega arith in
    let low : n % 65536 % 256 ≡ n % 256 = omega arith in
    written_part c.args.bytes.now c.args.at _ _ _ (c.copy_from_slice.ensures.after ∙ c.to_be_bytes.ensures ∙ rw (high, low) refl) (omega arith)
