-- A rule set that the code has is one of the document's, and no other is refused. Assumes nothing.
use Rattle.std.proofs.Common.{◌≡◌, true, false, ℕ, refl, subst}
use Rattle.term.specs.Refusal.{first}
use Rattle.ruleset.specs.declared.RuleSet.{RuleSet}
use Rattle.ruleset.specs.declared.RuleSet.TheVariants.{Basic, Reflexive}
use Rattle.ruleset.specs.RuleSet.{is_rule_set, rule_set_checks}
use Rattle.ruleset.specs.Numbered.{set_number}

pub set-known : (set : RuleSet) → is_rule_set (set_number set) ≡ true
unfolding is_rule_set
set-known Basic = refl
set-known Reflexive = refl

set_passes : (set : RuleSet) → 0 ≡ (first (rule_set_checks (set_number set) 0)).number
unfolding first
set_passes set = rw (set-known set) refl

-- a number that a rule set has is not refused
pub known_passes : (set : RuleSet) (n : ℕ) → set_number set ≡ n → 0 ≡ (first (rule_set_checks n 0)).number
known_passes set n e = subst (λ (x : ℕ). 0 ≡ (first (rule_set_checks x 0)).number) e (set_passes set)

-- "36 rule set unknown"
pub unknown_is36 : (n : ℕ) → is_rule_set n ≡ false → 36 ≡ (first (rule_set_checks n 0)).number
unfolding first
unknown_is36 n h = rw h refl
