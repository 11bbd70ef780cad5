-- Another number is neither of the two.
use Rattle.std.proofs.Common.{refl, arith}
use Rattle.std.proofs.lemmas.Bool.Decides.{nat_tests}
use Rattle.ruleset.specs.RuleSet.{is_rule_set}
use Rattle.ruleset.proofs.RuleSetTryFromU8.try_from.Goals as goal

pub returns-in_default : goal.returns-in_default
unfolding is_rule_set
returns-in_default c = (refl, grind (arith, nat_tests))
