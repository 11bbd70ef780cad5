-- Eight bytes, the highest first.
use Rattle.std.proofs.Common.{arith, add_assoc}
use Rattle.field.specs.Numbers.{two_at, four_at, eight_at}
use Rattle.field.proofs.number.eight.Goals as goal

pub returns : goal.returns
unfolding eight_at four_at two_at
returns c = simp add_assoc (omega (arith, c.from_be_bytes.ensures))
