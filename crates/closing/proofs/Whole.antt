-- The whole of closing: what saturating leaves is the closure, or its closure does not fit. Assumes nothing.
use mathlib.Core.Path.{◌≡◌, refl, sym, ap, ◌∙◌}
use mathlib.Core.Bool.{Bool, true, false}
use mathlib.Core.List.{List}
use Prim.Native.Nat.{ℕ, ◌≤◌, ◌<◌}
use native.Mathlib.Omega.{arith}
use lib.ListN.{length}
use Rattle.ground.proofs.Tab.{tab-length}
use Rattle.term.specs.Refusal.{first}
use Rattle.term.specs.declared.refusal.Verdict.{Verdict}
use Rattle.ruleset.specs.RuleSet.{is_rule_set}
use Rattle.table.specs.Rows.{Row, Lanes, rows_of, row_at, laid, zeroed, filled}
use Rattle.table.specs.Sound.{Sound}
use Rattle.table.proofs.Soundness.{sound-list}
use Rattle.table.proofs.Laid.{zeroed-alike}
use Rattle.rhodf.specs.Graph.{graph_of}
use Rattle.rhodf.specs.Rules.{rules_of}
use Rattle.rhodf.specs.Closure.{ClosureOf}
use Rattle.rhodf.proofs.Growing.{rows-valued}
use Rattle.rhodf.proofs.TablesAgree.{closures_equal}
use Rattle.rhodf.proofs.NoMoreRows.{below-no_more_rows}
use Rattle.rounds.specs.Rounds.{Saturated}
use Rattle.closing.specs.Checks.{close_checks}
use Rattle.closing.specs.Closing.{Closing}
use Rattle.closing.proofs.Judging.{passes-ready, not-refused}

pub closing_refused : {kind rules : ℕ} {l : Lanes} {n : ℕ} {v : Verdict} → v ≡ first (close_checks kind rules l n) → 0 < v.number
    → Closing kind rules l n l v.number v.place n
closing_refused {kind} {rules} {l} {n} e h = record {
  refused = λ q. (e, refl, refl);
  fits = λ known s. absurd (not-refused kind rules l n known s (rw (← e) h));
  no_room = λ known s. absurd (not-refused kind rules l n known s (rw (← e) h));
}

pub closing_ready : {kind : ℕ} (rules : ℕ) {l : Lanes} {n : ℕ} {v : Verdict} → v ≡ first (close_checks kind rules l n) → v.number ≤ 0
    → (is_rule_set rules ≡ true) × Sound kind l n
closing_ready {kind} rules {l} {n} e z = passes-ready kind rules l n (ap (λ (w : Verdict). w.number) (sym e) ∙ omega arith)

module _ {kind : ℕ} (rules : ℕ) {l : Lanes} {n : ℕ} (ready : (is_rule_set rules ≡ true) × Sound kind l n) {m : Lanes} {full : Bool} {n' : ℕ}
    (s : Saturated (rules_of rules) kind l n m full n') where
  -- where no row lacked room, the rows are the closure
  the_closure : full ≡ false → ClosureOf kind (rules_of rules) (rows_of l n) (rows_of m n')
  the_closure f = record {
    sound = sound-list s.risen.sound;
    is_least = record {
      valued = rows-valued kind (rows_of m n') (sound-list s.risen.sound);
      is_closed = s.closed f;
      holds = s.risen.up;
      least = λ H w c b. s.risen.entailed H (w, c, b);
    };
  }

  -- where one did, the closure has more rows than the lanes
  no_closure_fits : full ≡ true → (closed : List Row) → ClosureOf kind (rules_of rules) (rows_of l n) closed → length l.subj < length closed
  no_closure_fits t closed c =
      let w = s.risen.over t in
      let b = w.entailed (graph_of closed) (c.is_least.valued, c.is_least.is_closed, c.is_least.holds) in
      omega (arith, w.long, below-no_more_rows kind w.others closed w.sound c.sound b)

  same-zeroed : zeroed m ≡ zeroed l
  same-zeroed = zeroed-alike s.risen.as_long

  pub closing_done : full ≡ false → {m' : Lanes} → m' ≡ filled (rows_of m n') m → Closing kind rules l n m' 0 0 n'
  closing_done f e = record {
    refused = λ q. absurd (not-refused kind rules l n ready.0 ready.1 q);
    fits = λ _ _ closed c h.
        let same : rows_of m n' ≡ closed = closures_equal kind (rules_of rules) (rows_of l n) (rows_of m n') closed (the_closure f) c in
        (refl, e ∙ ap (laid (rows_of m n')) same-zeroed ∙ ap (λ (R : List Row). filled R l) same, sym (tab-length n' (row_at m)) ∙ ap length same);
    no_room = λ _ _ closed c h.
        let same : rows_of m n' ≡ closed = closures_equal kind (rules_of rules) (rows_of l n) (rows_of m n') closed (the_closure f) c in
        absurd (omega (arith, s.risen.sound.within, s.risen.as_long.same_subj, tab-length n' (row_at m), ap length same));
  }

  pub closing_no_room : full ≡ true → {m' : Lanes} → m' ≡ zeroed m → Closing kind rules l n m' 12 0 0
  closing_no_room t e = record {
    refused = λ q. absurd (not-refused kind rules l n ready.0 ready.1 q);
    fits = λ _ _ closed c h. absurd (omega (arith, no_closure_fits t closed c));
    no_room = λ _ _ closed c h. (refl, e ∙ same-zeroed, refl);
  }
