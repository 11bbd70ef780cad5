-- Another number is none of the four.
use Rattle.std.proofs.Common.{refl, arith}
use Rattle.std.proofs.lemmas.Bool.Decides.{nat_tests}
use Rattle.annotation.specs.Kinds.{is_kind}
use Rattle.annotation.proofs.KindTryFromU8.try_from.Goals as goal

pub returns-in_default : goal.returns-in_default
unfolding is_kind
returns-in_default c = (refl, grind (arith, nat_tests))
