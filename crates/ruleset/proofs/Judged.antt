-- The check of a rule set: how it is numbered and placed, and that it passes exactly for a rule set that there is. Assumes nothing.
use mathlib.Core.Path.{◌≡◌, refl}
use mathlib.Core.Bool.{true, not}
use mathlib.Core.List.{List, ◌++◌}
use Prim.Native.Nat.{ℕ}
use native.Mathlib.Omega.{arith}
use borrow.Author.Tests.{not-false}
use Rattle.term.specs.Refusal.{Check, done, first}
use Rattle.term.proofs.Firsts.{Numbered, Without, AllAt, first_passes, first-split}
use Rattle.ruleset.specs.RuleSet.{is_rule_set, rule_set_checks}

module _ (rules p : ℕ) where
  pub rule_set_numbered : Numbered (rule_set_checks rules p)
  rule_set_numbered = (omega arith, tt)

  -- none says "no room"
  pub rule_set_not_12 : Without 12 (rule_set_checks rules p)
  rule_set_not_12 = (λ e. omega arith, tt)

  pub rule_set_at : AllAt p (rule_set_checks rules p)
  rule_set_at = (refl, tt)

  module _ (cs : List Check) where
    pub rule_set_passes : is_rule_set rules ≡ true → first (rule_set_checks rules p ++ cs) ≡ first cs
    rule_set_passes h = first_passes _ 36 p cs (rw h refl)

    pub passes-rule_set : first (rule_set_checks rules p ++ cs) ≡ done → (is_rule_set rules ≡ true) × (first cs ≡ done)
    passes-rule_set e = let s = first-split 36 p (not (is_rule_set rules)) cs (omega arith) e in (not-false _ s.0, s.1)
