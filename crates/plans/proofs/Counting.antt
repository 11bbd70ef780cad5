-- How many plans there are, and which: rule set 1 has the first eight of all. Assumes nothing.
use mathlib.Core.Path.{◌≡◌, refl, ◌∙◌, sym}
use mathlib.Core.Bool.{Bool, true, false, cond}
use Prim.Native.Nat.{ℕ, ◌≤◌, ◌<◌}
use lib.Dec.{eqb}
use lib.ListN.{length, get_or-append}
use Rattle.ruleset.specs.RuleSet.{reflexive_set}
use Rattle.table.specs.Rows.{Triple}
use Rattle.plans.specs.declared.Plan.{Plan}
use Rattle.plans.specs.Plans.{off_plan, plans_of, reflexive_plans, all_plans, plans_with, plans_for, plan_at, plan_count_lem}

pub plans_counted : (rules : ℕ) (t : Triple) → length (plans_for rules t) ≡ plan_count_lem rules
unfolding plans_of reflexive_plans
plans_counted rules t = go (eqb rules reflexive_set)
  where
    go : (b : Bool) → length (plans_with b t) ≡ cond b 18 8
    go true = refl
    go false = refl

-- each plan of a set is the one of all that has its place
pub plan_is : (rules : ℕ) (t : Triple) (k : ℕ) → k < plan_count_lem rules → plan_at (plans_for rules t) k ≡ plan_at (all_plans t) k
unfolding plans_of
plan_is rules t k = go (eqb rules reflexive_set)
  where
    go : (b : Bool) → k < cond b 18 8 → plan_at (plans_with b t) k ≡ plan_at (all_plans t) k
    go true h = refl
    go false h = sym (get_or-append (plans_of t.s t.p t.o) (reflexive_plans t.s t.p t.o) off_plan k h)

-- of a count that was looked up
module _ (rules : ℕ) (t : Triple) {count k : ℕ} (e : count ≡ plan_count_lem rules) (h : k < count) where
  pub within-plans : k < length (plans_for rules t)
  within-plans = rw (plans_counted rules t, ← e) h

  pub plan_of_set : {plan : Plan} → plan ≡ plan_at (all_plans t) k → plan ≡ plan_at (plans_for rules t) k
  plan_of_set f = f ∙ sym (plan_is rules t k (rw (← e) h))

pub past_plans : (rules : ℕ) (t : Triple) {count k : ℕ} → count ≡ plan_count_lem rules → count ≤ k → length (plans_for rules t) ≤ k
past_plans rules t e h = rw (plans_counted rules t, ← e) h
