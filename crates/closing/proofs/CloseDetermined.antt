-- Any two results that the contract of closing allows coincide: number, place, count and every lane. Assumes nothing.
use mathlib.Core.Path.{◌≡◌, sym, ap, ◌∙◌}
use mathlib.Core.Bool.{true}
use mathlib.Core.List.{List}
use Prim.Native.Nat.{ℕ, ◌<◌}
use native.Mathlib.Decide.{dec_lt}
use native.Mathlib.Omega.{arith}
use lib.ListN.{length}
use Rattle.term.specs.Refusal.{verdict, first}
use Rattle.term.specs.declared.refusal.Verdict.{Verdict}
use Rattle.ruleset.specs.RuleSet.{is_rule_set}
use Rattle.table.specs.Rows.{Row, Lanes, rows_of}
use Rattle.table.specs.Sound.{Sound}
use Rattle.table.proofs.Soundness.{sound-list}
use Rattle.rhodf.specs.Rules.{rules_of}
use Rattle.rhodf.specs.Closure.{ClosureOf}
use Rattle.rhodf.proofs.Exists.{closure_exists}
use Rattle.closing.specs.Checks.{close_checks}
use Rattle.closing.specs.Closing.{Closing}
use Rattle.closing.proofs.Judging.{passes-ready}

pub record SameClosing (m m' : Lanes) (number place count number' place' count' : ℕ) : Type 0 where
  pub same_number : number ≡ number'
  pub same_place : place ≡ place'
  pub same_count : count ≡ count'
  pub same-lanes : m ≡ m'

-- two results that are one and the same
alike : (m m' : Lanes) (number place count number' place' count' : ℕ) (v : Verdict) (x : Lanes) (k : ℕ)
    → (verdict number place ≡ v) × (m ≡ x) × (count ≡ k) → (verdict number' place' ≡ v) × (m' ≡ x) × (count' ≡ k)
    → SameClosing m m' number place count number' place' count'
alike m m' number place count number' place' count' v x k a b =
    let e : verdict number place ≡ verdict number' place' = a.0 ∙ sym b.0 in
    record {
      same_number = ap (λ (w : Verdict). w.number) e;
      same_place = ap (λ (w : Verdict). w.place) e;
      same_count = a.2 ∙ sym b.2;
      same-lanes = a.1 ∙ sym b.1;
    }

pub close_determined : (kind rules : ℕ) (l : Lanes) (n : ℕ) (m m' : Lanes) (number place count number' place' count' : ℕ)
    → Closing kind rules l n m number place count → Closing kind rules l n m' number' place' count'
    → SameClosing m m' number place count number' place' count'
close_determined kind rules l n m m' number place count number' place' count' a b = go (dec_lt 0 (first (close_checks kind rules l n)).number)
  where
    by_room : is_rule_set rules ≡ true → Sound kind l n → (closed : List Row) → ClosureOf kind (rules_of rules) (rows_of l n) closed → Dec (length l.subj < length closed)
        → SameClosing m m' number place count number' place' count'
    by_room k s closed c (yes h) = alike m m' number place count number' place' count' _ _ _ (a.no_room k s closed c h) (b.no_room k s closed c h)
    by_room k s closed c (no h) = alike m m' number place count number' place' count' _ _ _ (a.fits k s closed c (omega arith)) (b.fits k s closed c (omega arith))

    go : Dec (0 < (first (close_checks kind rules l n)).number) → SameClosing m m' number place count number' place' count'
    go (yes h) = alike m m' number place count number' place' count' _ _ _ (a.refused h) (b.refused h)
    go (no h) =
        let ready = passes-ready kind rules l n (omega arith) in
        let c = closure_exists kind rules (rows_of l n) (sound-list ready.1) in
        by_room ready.0 ready.1 c.0 c.1 (dec_lt (length l.subj) (length c.0))
