-- Carrying out a plan: what a row that it meets gives follows, and a walk that changed nothing shows its plan obeyed. Assumes nothing.
use mathlib.Core.Path.{◌≡◌, subst, subst₂}
use mathlib.Core.Bool.{Bool, false, true}
use Rattle.std.proofs.Common.{Result, Ok, Err}
use Prim.Native.Nat.{ℕ, ◌<◌}
use native.Mathlib.Omega.{arith}
use Rattle.annotation.specs.Kinds.{algebra, Values}
use Rattle.annotation.specs.Numbered.{kind_number}
use Rattle.annotation.proofs.KindLaws.{laws}
use Rattle.annotation.proofs.Order.{meet-at_most_right}
use Rattle.table.specs.declared.lent.Table.{Table}
use Rattle.table.specs.declared.put.Done.{Done}
use Rattle.table.specs.Rows.{Lanes, row, triple, key_of, row_at, rows_of}
use Rattle.table.specs.Lent.{lanes_in}
use Rattle.table.specs.Places.{Placed}
use Rattle.table.proofs.Ordering.{Tri, less, same, more, tri}
use Rattle.table.proofs.Soundness.{sound-list}
use Rattle.rhodf.specs.Graph.{Graph, graph_of}
use Rattle.rhodf.specs.Rules.{Rules}
use Rattle.rhodf.proofs.Graphs.{below-trans}
use Rattle.rhodf.proofs.Growing.{rows-valued}
use Rattle.plans.specs.declared.Plan.{Plan}
use Rattle.plans.specs.declared.Plan.TheVariants.{Off, Rows, Alone}
use Rattle.plans.specs.declared.Each.{Each}
use Rattle.plans.specs.declared.Each.TheVariants.{Once, Behind}
use Rattle.plans.specs.declared.Once.TheVariants.{Straight}
use Rattle.plans.specs.declared.Behind.{Behind as BehindTerms}
use Rattle.plans.specs.Plans.{subject_of_each, Met, Obeyed}
use Rattle.plans.proofs.Meeting.{met-lower, met-bottom}
use Rattle.walks.specs.declared.Stopped.{Stopped}
use Rattle.walks.specs.Rising.{Risen, Drew}
use Rattle.walks.specs.Walks.{OfOne, Raised, Planned, Walked, Begins, Meeting, RowMet, MeetingDrawn, Answered, WalkedIn, MeetingDrawnIn}
use Rattle.walks.proofs.Rising.{drew-none, Passed, drew-so}
use Rattle.walks.proofs.Neighbours.{row-value, row_below, none_before, all_partners}

-- what follows from an answer
answered-so : (P Q : Bool → Bool → Type 0) → ((full changed : Bool) → P full changed → Q full changed) → (x : Result Done Stopped) → Answered P x → Answered Q x
answered-so P Q h (Ok d) p = h false d.changed p
answered-so P Q h (Err e) p = h true e.changed p

-- the same plan in a table that has risen
pub planned-later : {R : Rules} {kind : ℕ} {plan : Plan} {a : ℕ} {l : Lanes} {n : ℕ} {m : Lanes} {full changed : Bool} {n₁ : ℕ}
    → Planned R kind plan a l n → Risen R kind l n m full changed n₁ → Planned R kind plan a m n₁
planned-later {kind = kind} c s = record {
  sound = s.sound;
  legal = c.legal;
  value = c.value;
  sure = λ H h. c.sure H (h.0, h.1, below-trans (algebra kind) (laws kind) s.up h.2);
}

-- where there is nothing to do, it is obeyed
pub walked_off : {R : Rules} {kind a : ℕ} {l : Lanes} {n : ℕ} → Planned R kind Off a l n → Walked R kind Off a l n l false false n
walked_off c = drew-none c.sound (record { obeyed = tt })

-- what it gives alone
pub alone-walked : (R : Rules) (s p o a : ℕ) (t u : Table) (x : Result Done Stopped)
    → Answered (λ full changed. Raised R (kind_number t.kind) (row s p o a) (lanes_in t) t.count (lanes_in u) full changed u.count) x → WalkedIn R (Alone s p o) a t u x
alone-walked R s p o a t u x w =
    let P = λ (full changed : Bool). Raised R (kind_number t.kind) (row s p o a) (lanes_in t) t.count (lanes_in u) full changed u.count in
    let Q = λ (full changed : Bool). Walked R (kind_number t.kind) (Alone s p o) a (lanes_in t) t.count (lanes_in u) full changed u.count in
    answered-so P Q (λ full changed v. drew-so v (λ _ _ q. record { obeyed = q })) x w

-- of a row with the object z it leads to the rows behind that
pub behind-planned : {R : Rules} {kind : ℕ} {l : Lanes} {n z c : ℕ} (d : BehindTerms) → Meeting R kind (Behind d) z c l n
    → Planned R kind (Rows z d.t (Once (Straight d.s d.p))) c l n
behind-planned d m = record {
  sound = m.sound;
  legal = record { subject = m.subject; object = m.subject };
  value = m.value;
  sure = λ H h. record { obeyed = λ w. m.sure H h w };
}

pub behind-drawn : (R : Rules) (z c : ℕ) (t u : Table) (d : BehindTerms) (x : Result Done Stopped) → WalkedIn R (Rows z d.t (Once (Straight d.s d.p))) c t u x
    → MeetingDrawnIn R (Behind d) z c t u x
behind-drawn R z c t u d x w =
    let P = λ (full changed : Bool). Walked R (kind_number t.kind) (Rows z d.t (Once (Straight d.s d.p))) c (lanes_in t) t.count (lanes_in u) full changed u.count in
    let Q = λ (full changed : Bool). MeetingDrawn R (kind_number t.kind) (Behind d) z c (lanes_in t) t.count (lanes_in u) full changed u.count in
    answered-so P Q (λ full changed v. drew-so v (λ _ _ q. q.obeyed)) x w

-- a row that begins with q and r
module _ {R : Rules} {kind q r : ℕ} {each : Each} {a : ℕ} {l : Lanes} {n i : ℕ} (c : Planned R kind (Rows q r each) a l n) (there : i < n) where
  pub met-values : Values kind a (row_at l i).a
  met-values = record { left = c.value; right = row-value kind l n c.sound i there }

  -- in a closed graph above the table the row is no larger, so what it is to give is at most its value
  pub next-met : (row_at l i).s ≡ q → (row_at l i).p ≡ r → {b : ℕ} → b ≡ (algebra kind).meet a (row_at l i).a → Meeting R kind each (row_at l i).o b l n
  next-met es ep {b} eb =
      let both : (algebra kind).Value b = rw eb ((laws kind).meet_value a (row_at l i).a met-values.left met-values.right) in record {
        sound = c.sound;
        subject = c.legal.subject;
        object = c.legal.object;
        met = (c.sound.legal i there).object;
        value = both;
        sure = λ H h.
            let K = algebra kind in
            let t = triple q r (row_at l i).o in
            met-lower K (laws kind) H h.0 each (row_at l i).o b (K.meet a (H t)) both ((laws kind).meet_value a (H t) met-values.left (h.0.value t))
            (rw eb (meet-at_most_right K (laws kind) a (row_at l i).a (H t) met-values.left met-values.right (h.0.value t)
            (row_below kind l n c.sound i q r there es ep H h.2)))
            ((c.sure H h).obeyed (row_at l i).o);
      }

-- what was drawn of it
pub row-met : {R : Rules} {kind : ℕ} (q r : ℕ) (each : Each) (a : ℕ) {l : Lanes} {n : ℕ} (i : ℕ) {b : ℕ} → b ≡ (algebra kind).meet a (row_at l i).a
    → {m : Lanes} {full changed : Bool} {n' : ℕ} → MeetingDrawn R kind each (row_at l i).o b l n m full changed n'
    → Drew R kind (OfOne (subject_of_each each)) (RowMet kind q r each a l n i) l n m full changed n'
row-met {kind = kind} q r each a {l} {n} i eb w = drew-so w (λ _ _ p _ _. subst (Met (algebra kind) (graph_of (rows_of l n)) each (row_at l i).o) eb p)

-- the walk along the rows that begin with q and r
module _ {R : Rules} {kind q r : ℕ} {each : Each} {a : ℕ} {l : Lanes} {n : ℕ} (c : Planned R kind (Rows q r each) a l n)
    (small : r < 65536) {at : ℕ} (pl : Placed l.subj l.pred l.obj n (key_of q r 0) at) where
  pub walk_start : Drew R kind (OfOne (subject_of_each each)) (Passed (RowMet kind q r each a) at at l n) l n l false false n
  walk_start = drew-none c.sound (record {
    reached = omega arith;
    passed = λ k h es ep. absurd (none_before kind l n c.sound q r at small pl k h es ep);
  })

  abbrev G : Graph
  G = graph_of (rows_of l n)

  all_met : (i : ℕ) → Passed (RowMet kind q r each a) at i l n → (i < n → (row_at l i).s ≡ q → (row_at l i).p ≡ r → ⊥) → Obeyed (algebra kind) G (Rows q r each) a
  all_met i p stops = record { obeyed = λ z. go z (tri 0 (G (triple q r z))) }
    where
      go : (z : ℕ) → Tri 0 (G (triple q r z)) → Met (algebra kind) G each z ((algebra kind).meet a (G (triple q r z)))
      go z (less h) =
          all_partners kind l n c.sound q r at small pl i p.reached stops
          (λ o b. Met (algebra kind) G each o ((algebra kind).meet a b)) p.passed z h
      go z (same e) =
          rw (← e, (laws kind).meet_bottom a c.value)
          (met-bottom (algebra kind) (laws kind) G (rows-valued kind (rows_of l n) (sound-list c.sound)) each z)
      go z (more h) = absurd (omega arith)

  pub walk_end : {m : Lanes} {changed : Bool} {n₁ i : ℕ} {b : Bool} → Drew R kind (OfOne (subject_of_each each)) (Passed (RowMet kind q r each a) at i l n) l n m false changed n₁
      → Begins m.subj m.pred n₁ i q r b → b ≡ false → Walked R kind (Rows q r each) a l n m false changed n₁
  walk_end {m} {changed} {n₁} {i} s e f = drew-so s (λ em en p.
      all_met i p (subst₂ (λ (x : Lanes) (k : ℕ). i < k → (row_at x i).s ≡ q → (row_at x i).p ≡ r → ⊥) em en (e.missing f)))
