-- The rule sets as the code has them, by the document's numbers.
use Rattle.std.specs.Prelude.{◌≡◌, false, ℕ, Result, MatchResult}
use Rattle.ruleset.specs.declared.RuleSet.{RuleSet}
use Rattle.ruleset.specs.declared.RuleSet.TheVariants.{Basic, Reflexive}
use Rattle.term.specs.declared.refusal.Refusal.{Refusal}
use Rattle.term.specs.declared.refusal.Refusal.TheVariants.{WrongRuleSet}
use Rattle.ruleset.specs.RuleSet.{is_rule_set}

abbrev pub set_number : RuleSet → ℕ
set_number Basic = 1
set_number Reflexive = 2

-- the rule set of a number; "36 rule set unknown" where there is none
abbrev pub Numbers : ℕ → Result RuleSet Refusal → Type 0
Numbers n r = MatchResult r (λ set. set_number set ≡ n) (λ e. (e ≡ WrongRuleSet) × (is_rule_set n ≡ false))
