-- The checks of closing: 4, 36 and the table's, one after another; and which tables and rule sets pass them. Assumes nothing.
use mathlib.Core.Path.{◌≡◌, refl, sym, ap, ◌∙◌}
use mathlib.Core.Bool.{Bool, true, false, not}
use mathlib.Core.List.{List, ◌++◌}
use Prim.Native.Nat.{ℕ, ◌≤◌, ◌<◌}
use native.Mathlib.Omega.{arith}
use Rattle.term.specs.Refusal.{Check, verdict, done, first}
use Rattle.term.specs.declared.refusal.Verdict.{Verdict}
use Rattle.term.proofs.Firsts.{first_passes, first_stops, Numbered, numbered-append, first-clear, first_done, Without, without_append, AllAt, first-place, first-split, first-left}
use Rattle.ruleset.specs.RuleSet.{is_rule_set, rule_set_checks}
use Rattle.ruleset.specs.declared.RuleSet.{RuleSet}
use Rattle.ruleset.specs.declared.RuleSet.TheVariants.{Basic, Reflexive}
use Rattle.ruleset.specs.Numbered.{set_number}
use Rattle.annotation.specs.declared.Kind.{Kind}
use Rattle.annotation.specs.Kinds.{kind_checks}
use Rattle.annotation.specs.Numbered.{kind_number}
use Rattle.annotation.proofs.Judged.{kind-numbered, kind-not_12, kind_at, passes-kind}
use Rattle.annotation.proofs.Known.{kind-passes}
use Rattle.table.specs.Rows.{Lanes}
use Rattle.table.specs.Checks.{table_checks}
use Rattle.table.specs.Sound.{Sound}
use Rattle.table.proofs.Judging.{table-numbered, table-not_12}
use Rattle.table.proofs.Soundness.{passes-sound, sound-passes}
use Rattle.closing.specs.Checks.{close_checks}

-- checks at place 0 that give a number give it whatever follows, and those that give none pass
stops_at : (cs ds : List Check) → AllAt 0 cs → (k : ℕ) → k ≡ (first cs).number → 0 < k → verdict k 0 ≡ first (cs ++ ds)
stops_at cs ds at k e h =
    let q : 0 < (first cs).number = rw (← e) h in
    ap (λ (j : ℕ). verdict j 0) e ∙ sym (first-place 0 cs at q) ∙ sym (first_stops cs ds q)

passes_on : (cs ds : List Check) → Numbered cs → (k : ℕ) → k ≡ (first cs).number → k ≤ 0 → first (cs ++ ds) ≡ first ds
passes_on cs ds num k e h = first-clear cs ds num (sym e ∙ omega arith)

set-numbered : (rules : ℕ) → Numbered (rule_set_checks rules 0)
set-numbered rules = (omega arith, tt)

set_at : (rules : ℕ) → AllAt 0 (rule_set_checks rules 0)
set_at rules = (refl, tt)

module _ (kind rules : ℕ) (l : Lanes) (n : ℕ) where
  abbrev behind : List Check
  behind = rule_set_checks rules 0 ++ table_checks kind l n

  pub close_numbered : Numbered (close_checks kind rules l n)
  close_numbered =
      numbered-append (kind_checks kind 0) behind (kind-numbered kind 0)
      (numbered-append (rule_set_checks rules 0) (table_checks kind l n) (set-numbered rules) (table-numbered kind l n))

  -- none of them says "no room"
  pub close_not_12 : Without 12 (close_checks kind rules l n)
  close_not_12 =
      without_append 12 (kind_checks kind 0) behind (kind-not_12 kind 0)
      (without_append 12 (rule_set_checks rules 0) (table_checks kind l n) (λ e. omega arith, tt) (table-not_12 kind l n))

  module _ (k : ℕ) (e : k ≡ (first (kind_checks kind 0)).number) where
    pub close_by_kind : 0 < k → verdict k 0 ≡ first (close_checks kind rules l n)
    close_by_kind h = stops_at (kind_checks kind 0) behind (kind_at kind 0) k e h

    module _ (z : k ≤ 0) (j : ℕ) (f : j ≡ (first (rule_set_checks rules 0)).number) where
      past_kind : first (close_checks kind rules l n) ≡ first behind
      past_kind = passes_on (kind_checks kind 0) behind (kind-numbered kind 0) k e z

      pub close_by_set : 0 < j → verdict j 0 ≡ first (close_checks kind rules l n)
      close_by_set h = stops_at (rule_set_checks rules 0) (table_checks kind l n) (set_at rules) j f h ∙ sym past_kind

      pub close_by_table : j ≤ 0 → first (table_checks kind l n) ≡ first (close_checks kind rules l n)
      close_by_table y = sym (past_kind ∙ passes_on (rule_set_checks rules 0) (table_checks kind l n) (set-numbered rules) j f y)

  -- what passes is a rule set and a sound table
  pub passes-ready : (first (close_checks kind rules l n)).number ≡ 0 → (is_rule_set rules ≡ true) × Sound kind l n
  passes-ready e =
      let past = (passes-kind kind 0 behind (first_done (close_checks kind rules l n) close_numbered e)).1 in
      let both = first-split 36 0 (not (is_rule_set rules)) (table_checks kind l n) (omega arith) past in
      (known (is_rule_set rules) both.0, passes-sound kind l n both.1)
    where
      known : (b : Bool) → not b ≡ false → b ≡ true
      known true q = refl
      known false q = sym q

  -- and they pass
  pub ready-passes : is_rule_set rules ≡ true → Sound kind l n → first (close_checks kind rules l n) ≡ done
  ready-passes known sound =
      let table = sound-passes kind l n sound in
      let of-kind = first-left (kind_checks kind 0) _ (ap (λ (v : Verdict). v.number) table) in
      first-clear (kind_checks kind 0) behind (kind-numbered kind 0) of-kind
      ∙ first_passes (not (is_rule_set rules)) 36 0 (table_checks kind l n) (rw known refl)
      ∙ table

  -- a rule set and a sound table are not refused
  pub not-refused : is_rule_set rules ≡ true → Sound kind l n → 0 < (first (close_checks kind rules l n)).number → ⊥
  not-refused known sound h = omega (arith, ap (λ (v : Verdict). v.number) (ready-passes known sound))

-- a rule set that the code has is one of the document's, and no other is refused
set-known : (r : RuleSet) → is_rule_set (set_number r) ≡ true
unfolding is_rule_set
set-known Basic = refl
set-known Reflexive = refl

set-passes : (r : RuleSet) → 0 ≡ (first (rule_set_checks (set_number r) 0)).number
unfolding first
set-passes r = rw (set-known r) refl

-- "36 rule set unknown"
pub unknown_is36 : (n : ℕ) → is_rule_set n ≡ false → 36 ≡ (first (rule_set_checks n 0)).number
unfolding first
unknown_is36 n h = rw h refl

-- of a kind and a rule set that there are the table's checks are left
pub close_by_known : (k : Kind) (r : RuleSet) (l : Lanes) (n : ℕ) → first (table_checks (kind_number k) l n) ≡ first (close_checks (kind_number k) (set_number r) l n)
close_by_known k r l n = close_by_table (kind_number k) (set_number r) l n 0 (kind-passes k) (omega arith) 0 (set-passes r) (omega arith)
