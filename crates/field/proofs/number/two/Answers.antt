-- High byte and low byte.
use Rattle.std.proofs.Common.{arith}
use Rattle.field.specs.Numbers.{two_at}
use Rattle.field.proofs.number.two.Goals as goal

pub returns : goal.returns
unfolding two_at
returns c = omega (arith, c.from_be_bytes.ensures)
