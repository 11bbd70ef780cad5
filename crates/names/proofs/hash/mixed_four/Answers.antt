-- One sum is the four steps.
use native.Mathlib.Nat.{mod-lt}
use native.Mathlib.Omega.{arith}
use Rattle.names.proofs.Hashing.{four_sum}
use Rattle.names.proofs.hash.mixed_four.Goals as goal

pub returns : goal.returns
returns c =
    (rw (c.from.ensures, c.from-2.ensures, c.from-3.ensures, c.from-4.ensures) (four_sum c.args.h c.args.a c.args.b c.args.c c.args.d), mod-lt _ (omega arith))
