-- A row's plans are sure, a table where nothing waits is closed, and rounds come to an end: for every set of rules that plans drive
-- and that stay obeyed where nothing they meet rises.
-- Assumes nothing.
use mathlib.Core.Path.{◌≡◌, refl, sym, subst, ◌∙◌}
use Rattle.std.proofs.Common.{None, Result, Ok, Err}
use mathlib.Core.Bool.{Bool, true, false, ◌||◌, true≢false}
use mathlib.Core.List.{List, [], ◌∷◌}
use mathlib.Core.Logic.{◌⊎◌, inl, inr, ⊎_elim}
use Prim.Native.Nat.{ℕ, zero, suc, ◌+◌, ◌-◌, ◌*◌, ◌≤◌, ◌<◌}
use native.Mathlib.Omega.{arith}
use lib.Dec.{eqb}
use borrow.Author.Tests.{eq-eqb}
use lib.ListN.{length, get_or, replicate}
use Rattle.ground.specs.Lists.{All}
use Rattle.term.specs.Term.{sp, dom, range}
use Rattle.annotation.specs.Kinds.{algebra}
use Rattle.annotation.proofs.KindLaws.{laws}
use Rattle.annotation.specs.Numbered.{kind_number}
use Rattle.table.specs.declared.lent.Table.{Table}
use Rattle.table.specs.declared.put.Full.{Full}
use Rattle.table.specs.Lent.{lanes_in}
use Rattle.table.specs.Rows.{Lanes, Triple, triple, row_at, rows_of, total}
use Rattle.table.specs.Sound.{Sound}
use Rattle.table.proofs.Soundness.{sound-list}
use Rattle.table.proofs.Values.{RowHeld, held-row, legal-small}
use Rattle.table.proofs.Ordering.{Tri, less, same, more, tri}
use Rattle.table.proofs.Totals.{most_total, total-bound}
use Rattle.rhodf.specs.Graph.{graph_of}
use Rattle.rhodf.specs.Rules.{Rules}
use Rattle.rhodf.specs.Closure.{Closed}
use Rattle.rhodf.proofs.Growing.{rows-valued}
use Rattle.termset.specs.Termset.{holds, words, Without}
use Rattle.termset.proofs.Holding.{not-among, holds-all}
use Rattle.termset.proofs.Counting.{members, members_most, members_fall}
use Rattle.plans.specs.declared.Plan.{Plan}
use Rattle.plans.specs.Plans.{off_plan, plan_at, subject_of, LegalPlan, Obeyed}
use Rattle.plans.proofs.Meeting.{all_at, all_from, obeyed_lower}
use Rattle.plans.proofs.Driven.{Driven, AllObeyed}
use Rattle.walks.specs.Rising.{Risen, Drew, Either}
use Rattle.walks.specs.Walks.{OfPlan, Planned, Walked}
use Rattle.walks.proofs.Rising.{which, either_or, risen-none, risen-then, drew-none, drew-so, drew-among, Passed, turn}
use Rattle.walks.proofs.Neighbours.{row-value, row_below}
use Rattle.walks.proofs.Walking.{planned-later}
use Rattle.rounds.specs.declared.Turn.{Turn}
use Rattle.rounds.specs.declared.Turn.TheVariants.{Down, Up}
use Rattle.rounds.specs.Due.{number_of, one_of, Still, Idle, Typed, Quiet, OfRow, RoseAt, Marked, ToCome, NotBefore, First, Onward, Spread, Aimed, AimedAt, WaitsAt, Chosen}
use Rattle.rounds.specs.Rounds.{triple_at, RowObeyed, RowOfTable, RowDrawn, RowAsked, RoundDue, RoundDrawn, Waiting, Saturated, SaturatedIn}
use Rattle.rounds.proofs.Staying.{OneOf, OfTriple, Staying}
use Rattle.rounds.proofs.Settling.{Moved, Settled, settled_on}

-- plan k of row i of l is obeyed in another table
abbrev pub PlanPassed : (Triple → List Plan) → ℕ → Lanes → ℕ → Lanes → ℕ → ℕ → Type 0
PlanPassed plans kind l i m n k = Obeyed (algebra kind) (graph_of (rows_of m n)) (plan_at (plans (triple_at l i)) k) (row_at l i).a

-- what a round has done, where the rows To of the table as it is are to come
pub record SoFar (R : Rules) (plans : Triple → List Plan) (turn one kind : ℕ) (l : Lanes) (n : ℕ) (m : Lanes) (changed : Bool) (n₁ : ℕ)
    (due rose₀ rose : List ℕ) (To : ℕ → Type 0) : Type 0 where
  pub risen : Risen R kind l n m false changed n₁
  pub same : changed ≡ false → rose ≡ rose₀
  pub settled : Settled plans turn one kind due rose To m n₁

-- what a round has left where it has come to i, of lanes so long and n rows
abbrev pub round_left : ℕ → ℕ → ℕ → ℕ → ℕ
round_left zero long n i = i + (long - n)
round_left (suc turn) long n i = long - i

-- where the round began, and where it goes on behind row `at`
pub first-all : {turn n i : ℕ} → First turn n i → (j : ℕ) → j < n → ToCome turn i j
first-all f j h = record { up = λ u. omega (arith, f.up u); down = λ e. omega (arith, f.down e, h) }

pub onward_comes : {turn n n₂ at i : ℕ} → n ≤ n₂ → Onward turn at (n₂ - n) i → (j k : ℕ) → Moved n n₂ j k → (j ≡ at → ⊥)
    → NotBefore turn at j → ToCome turn i k
onward_comes grew o j k place apart t = record {
  up = λ u. omega (arith, o.up u, place.low, apart, t.up u);
  down = λ e. omega (arith, grew, o.down e, place.high, apart, t.down e);
}

-- what sweeps have done, and what is done subject after subject
pub record Settling (R : Rules) (plans : Triple → List Plan) (kind : ℕ) (l : Lanes) (n : ℕ) (m : Lanes) (n₁ : ℕ) (rose : List ℕ) : Type 0 where
  pub changed : Bool
  pub risen : Risen R kind l n m false changed n₁
  pub waiting : Waiting plans kind m n₁ rose

-- what is left of it: the sum of annotations cannot pass its bound, and while it stays as it is, a subject less waits
abbrev pub settle_left : Lanes → ℕ → List ℕ → ℕ
settle_left m n rose = (most_total - total (rows_of m n)) * 65537 + members rose

-- a row that meets nothing of the set that was spread meets nothing that rose
spread_quiet : (m : Lanes) {n : ℕ} {rose rose' : List ℕ} → Spread m.subj m.pred m.obj n rose rose' → (t : Triple) → Still rose' t
    → Quiet rose (graph_of (rows_of m n)) t
spread_quiet m {n} {rose} {rose'} s t still = record {
  self = not-among s.more t.s still.self;
  by_predicate = λ r w h. not-among s.more t.p still.by_predicate;
  by_object = λ d r w h. not-among s.more t.o (still.by_object d);
  behind = λ z h k. go z (held-row n (row_at m) (triple t.p sp z) h) (holds rose z) refl;
}
  where
    go : (z : ℕ) → RowHeld n (row_at m) (triple t.p sp z) → (b : Bool) → holds rose z ≡ b → holds rose z ≡ false
    go z f true e =
        let r = f.is_row in
        let h = s.behind f.at f.within r.same-p (rw r.same-o e) in
        absurd (true≢false (sym (rw r.same_s at h) ∙ still.by_predicate))
    go z f false e = e

-- where no row has a subject of the set, every row is quiet
rows-quiet : (m : Lanes) {n : ℕ} {rose : List ℕ} → ((j : ℕ) → j < n → holds rose (row_at m j).s ≡ false) → (i : ℕ) → i < n → Quiet rose (graph_of (rows_of m n)) (triple_at m i)
rows-quiet m {n} {rose} none i h = record {
  self = none i h;
  by_predicate = λ r w k. of (row_at m i).p r w k;
  by_object = λ d r w k. of (row_at m i).o r w k;
  behind = λ z k t. ⊎_elim (of z dom t.0) (of z range t.0) t.1;
}
  where
    of : (z r w : ℕ) → 0 < graph_of (rows_of m n) (triple z r w) → holds rose z ≡ false
    of z r w k =
        let f = held-row n (row_at m) (triple z r w) k in
        rw (← f.is_row.same_s) (none f.at f.within)

-- a row that is not due in a round by one subject
idle_of : {turn one other : ℕ} {due : List ℕ} {t : Triple} → (1 < turn → other ≡ one) → Idle turn other due t → Idle turn one due t
idle_of e i = record { by_set = i.by_set; by_one = λ h. rw (← e h) (i.by_one h) }

-- one subject is taken out of the set, and the rows that can meet one of it are due
module _ (m : Lanes) (n one turn : ℕ) {due rose rose' : List ℕ} (a : Aimed m n one due turn) (w : Without one rose rose') where
  -- another that is not in the set now was not
  spared : (z : ℕ) → (z ≡ one → ⊥) → holds rose' z ≡ false → holds rose z ≡ false
  spared z apart out = go (holds rose z) refl
    where
      go : (b : Bool) → holds rose z ≡ b → holds rose z ≡ false
      go true e = ⊎_elim (λ q. absurd (apart q)) (λ q. absurd (true≢false (sym q ∙ out))) (w.others z e)
      go false e = e

  record Clear (t : Triple) : Type 0 where
    self : t.s ≡ one → ⊥
    by_predicate : t.p ≡ one → ⊥
    by_object : t.p < dom → t.o ≡ one → ⊥
    behind : (z : ℕ) → 0 < graph_of (rows_of m n) (triple t.p sp z) → Typed (graph_of (rows_of m n)) z → z ≡ one → ⊥

  in_set : turn ≤ 1 → (z : ℕ) → holds due z ≡ false → z ≡ one → ⊥
  in_set h z out e = true≢false (sym (a.there h) ∙ (rw e at out))

  clear_by_set : (t : Triple) → turn ≤ 1 → Still due t → Clear t
  clear_by_set t h i = record {
    self = in_set h t.s i.self;
    by_predicate = in_set h t.p i.by_predicate;
    by_object = λ d. in_set h t.o (i.by_object d);
    behind = λ z k y e.
        let f = held-row n (row_at m) (triple t.p sp z) k in
        let r = f.is_row in
        let in-due = a.below h f.at f.within r.same-p (r.same-o ∙ e) in
        true≢false (sym (rw r.same_s at in-due) ∙ i.by_predicate);
  }

  idle_clear : (t : Triple) → Idle turn one due t → Tri turn 1 → Clear t
  idle_clear t i (less h) = clear_by_set t (omega arith) (i.by_set (omega arith))
  idle_clear t i (same e) = clear_by_set t (omega arith) (i.by_set (omega arith))
  idle_clear t i (more h) = record {
    self = (i.by_one h).self;
    by_predicate = (i.by_one h).by_predicate;
    by_object = (i.by_one h).by_object;
    behind = λ z k y e. a.alone h (subst (Typed (graph_of (rows_of m n))) e y);
  }

  aimed_quiet : (t : Triple) → Idle turn one due t → Quiet rose' (graph_of (rows_of m n)) t → Quiet rose (graph_of (rows_of m n)) t
  aimed_quiet t i q = let c = idle_clear t i (tri turn 1) in record {
    self = spared t.s c.self q.self;
    by_predicate = λ r w h. spared t.p c.by_predicate (q.by_predicate r w h);
    by_object = λ d r w h. spared t.o (c.by_object d) (q.by_object d r w h);
    behind = λ z h k. spared z (c.behind z h k) (q.behind z h k);
  }

-- what is told of a plan that gave rows of the subject s, and of one that gave none
pub told_or : (told : Bool) (s t : ℕ) → RoseAt told true s t (told || eqb s t)
told_or true s t = record { keeps = λ _. refl; tells = λ _ _. refl }
told_or false s t = record { keeps = λ e. absurd (true≢false (sym e)); tells = λ _ e. eq-eqb s t e }

pub told_still : (told : Bool) (s t : ℕ) → RoseAt told false s t told
told_still told s t = record { keeps = λ e. e; tells = λ e _. absurd (true≢false (sym e)) }

-- each sweep goes by the set
pub by_set : (k : ℕ) → number_of (get_or (Down ∷ Up ∷ []) k Down) ≤ 1
by_set zero = omega arith
by_set (suc zero) = omega arith
by_set (suc (suc k)) = omega arith

module _ {R : Rules} {plans : Triple → List Plan} (driven : Driven R plans) {kind : ℕ} where
  -- every plan of a row, one after another
  module _ {l : Lanes} {n i : ℕ} (c : RowOfTable kind l n i) where
    pub row-start : Drew R kind (OfRow (triple_at l i) false false) (Passed (PlanPassed plans kind l i) 0 0 l n) l n l false false n
    row-start = drew-none c.sound (record { reached = omega arith; passed = λ k h. absurd (omega arith) })

    row-planned : (k : ℕ) → k < length (plans (triple_at l i)) → Planned R kind (plan_at (plans (triple_at l i)) k) (row_at l i).a l n
    row-planned k q =
        let t = triple_at l i in
        let h = c.sound.legal i c.there in
        let legal = all_at LegalPlan off_plan (plans t) (driven.legal t (record { subject = h.subject; predicate = h.predicate; object = h.object })) k q in
        let value = row-value kind l n c.sound i c.there in
        record {
          sound = c.sound;
          legal = legal;
          value = value;
          sure = λ H h. obeyed_lower (algebra kind) (laws kind) H h.0 (plan_at (plans t) k) (row_at l i).a (H t) value (h.0.value t)
              (row_below kind l n c.sound i (row_at l i).s (row_at l i).p c.there refl refl H h.2)
              (all_at (λ plan. Obeyed (algebra kind) H plan (H t)) off_plan (plans t) (driven.sure (algebra kind) (laws kind) H h.0 h.1 t) k q);
        }

    pub row-pursued : {m : Lanes} {full changed : Bool} {n₁ : ℕ} {plan : Plan} → Risen R kind l n m full changed n₁ → (k : ℕ) → k < length (plans (triple_at l i))
        → plan ≡ plan_at (plans (triple_at l i)) k → Planned R kind plan (row_at l i).a m n₁
    row-pursued s k q e = rw e (planned-later (row-planned k q) s)

    -- a plan more
    module _ (staying : Staying plans) {m : Lanes} {c₁ other third : Bool} {n₁ k : ℕ} {m₂ : Lanes} {f₂ c₂ other₂ third₂ c₃ : Bool} {n₂ : ℕ} where
      pub row-turn : Drew R kind (OfRow (triple_at l i) other third) (Passed (PlanPassed plans kind l i) 0 k l n) l n m false c₁ n₁ → k < length (plans (triple_at l i))
          → {plan : Plan} → plan ≡ plan_at (plans (triple_at l i)) k
          → Walked R kind plan (row_at l i).a m n₁ m₂ f₂ c₂ n₂
          → RoseAt other c₂ (subject_of plan) (row_at l i).o other₂ → RoseAt third c₂ (subject_of plan) (row_at l i).p third₂ → Either c₁ c₂ c₃
          → Drew R kind (OfRow (triple_at l i) other₂ third₂) (Passed (PlanPassed plans kind l i) 0 (k + 1) l n) l n m₂ f₂ c₃ n₂
      row-turn s q {plan} ep w o t e =
          turn (drew-among s (λ _. wider)) (subst (λ (p : Plan). Drew R kind (OfRow (triple_at l i) other₂ third₂) (Obeyed (algebra kind) (graph_of (rows_of m n₁)) p (row_at l i).a) m n₁ m₂ f₂ c₂ n₂) ep (drew-among w own)) e
        where
          wider : (x : ℕ) → OfRow (triple_at l i) other third x → OfRow (triple_at l i) other₂ third₂ x
          wider x (inl e) = inl e
          wider x (inr (inl h)) = inr (inl (o.keeps h.0, h.1))
          wider x (inr (inr h)) = inr (inr (t.keeps h.0, h.1))

          by : c₂ ≡ true → (x : ℕ) → (x ≡ subject_of plan) × OneOf (triple_at l i) x → OfRow (triple_at l i) other₂ third₂ x
          by h x (e, inl p) = inl p
          by h x (e, inr (inl p)) = inr (inl (o.tells h (sym e ∙ p), p))
          by h x (e, inr (inr p)) = inr (inr (t.tells h (sym e ∙ p), p))

          own : c₂ ≡ true → (x : ℕ) → OfPlan plan x → OfRow (triple_at l i) other₂ third₂ x
          own h x g = by h x (subst (OfTriple (triple_at l i)) (sym ep) (all_at (OfTriple (triple_at l i)) off_plan (plans (triple_at l i)) (staying.gives (triple_at l i)) k q) x g)

    pub row-end : {m : Lanes} {changed other third : Bool} {n₁ k : ℕ} → Drew R kind (OfRow (triple_at l i) other third) (Passed (PlanPassed plans kind l i) 0 k l n) l n m false changed n₁
        → length (plans (triple_at l i)) ≤ k → RowDrawn R plans kind l n i m false changed other third n₁
    row-end s h = drew-so s (λ _ _ p. all_from (λ plan. Obeyed (algebra kind) (graph_of (rows_of l n)) plan (row_at l i).a) off_plan (plans (triple_at l i))
        (λ j q. p.passed j (omega arith)))

    -- what rose is put into the sets
    pub row-asked : {m : Lanes} {full changed other third : Bool} {n' : ℕ} {due due' rose rose' : List ℕ} → RowDrawn R plans kind l n i m full changed other third n'
        → Marked changed other third (row_at l i).s (row_at l i).o (row_at l i).p due due' rose rose' → RowAsked R plans kind l n i m full changed n' due due' rose rose'
    row-asked {m} {full} {changed} {other} {third} {n'} {due} {due'} {rose} {rose'} d k = record {
      drew = drew-among d rises;
      due_more = k.due_more;
      rose_more = k.rose_more;
      again = k.self;
      same = k.same;
    }
      where
        rises : changed ≡ true → (x : ℕ) → OfRow (triple_at l i) other third x → holds rose' x ≡ true
        rises h x (inl e) = rw e (k.self h)
        rises h x (inr (inl w)) = rw w.1 (k.beside h w.0)
        rises h x (inr (inr w)) = rw w.1 (k.above h w.0)

  -- every row that is due, one after another: at first all are to come
  pub round_start : {turn one : ℕ} {l : Lanes} {n : ℕ} {due rose : List ℕ} {To : ℕ → Type 0} → RoundDue plans turn one kind l n due rose
      → ((j : ℕ) → j < n → To j) → SoFar R plans turn one kind l n l false n due rose rose To
  round_start d all = record {
    risen = risen-none d.sound;
    same = λ _. refl;
    settled = λ j h q w. d.settled j h (w (all j h)) q;
  }

  -- rows that are not due are left alone
  pub round_skip : {turn one : ℕ} {l : Lanes} {n : ℕ} {m : Lanes} {c : Bool} {n₁ : ℕ} {due rose₀ rose : List ℕ} {To To' : ℕ → Type 0}
      → SoFar R plans turn one kind l n m c n₁ due rose₀ rose To → ((j : ℕ) → j < n₁ → To j → To' j ⊎ Idle turn one due (triple_at m j))
      → SoFar R plans turn one kind l n m c n₁ due rose₀ rose To'
  round_skip s left = record {
    risen = s.risen;
    same = s.same;
    settled = λ j h quiet w. s.settled j h quiet (λ t. ⊎_elim w (λ idle. idle) (left j h t));
  }

  module _ (staying : Staying plans) {turn one : ℕ} {l : Lanes} {n : ℕ} {m : Lanes} {c : Bool} {n₁ : ℕ} {due rose₀ rose : List ℕ} {To : ℕ → Type 0} {i : ℕ}
      (s : SoFar R plans turn one kind l n m c n₁ due rose₀ rose To) {m₂ : Lanes} {c₂ : Bool} {n₂ : ℕ} {due₂ rose₂ : List ℕ} {c₃ : Bool}
      (a : RowAsked R plans kind m n₁ i m₂ false c₂ n₂ due due₂ rose rose₂) (e : Either c c₂ c₃) where
    pub round_turn : {To' : ℕ → Type 0} → ((j k : ℕ) → Moved n₁ n₂ j k → (j ≡ i → ⊥) → To j → To' k) → SoFar R plans turn one kind l n m₂ c₃ n₂ due₂ rose₀ rose₂ To'
    round_turn {To'} comes = record {
      risen = risen-then s.risen a.drew.risen e;
      same = λ z. a.same (e.neither z).1 ∙ s.same (e.neither z).0;
      settled = settled_on staying s.risen.sound a refl To To' comes s.settled;
    }

  -- a table whose rows obey their plans is closed
  rows-closed : (l : Lanes) (n : ℕ) → Sound kind l n → ((i : ℕ) → i < n → RowObeyed plans kind l n i) → Closed (algebra kind) R (graph_of (rows_of l n))
  rows-closed l n sound all =
      let G = graph_of (rows_of l n) in
      driven.enough (algebra kind) (laws kind) G (rows-valued kind (rows_of l n) (sound-list sound)) (λ t h. go t (held-row n (row_at l) t h))
    where
      go : (t : Triple) → RowHeld n (row_at l) t → AllObeyed (algebra kind) plans (graph_of (rows_of l n)) t
      go t h =
          let e = h.is_row in
          subst (λ (v : ℕ). All (λ plan. Obeyed (algebra kind) (graph_of (rows_of l n)) plan v) (plans t)) (sym h.value-is)
          (subst (λ (u : Triple). All (λ plan. Obeyed (algebra kind) (graph_of (rows_of l n)) plan (row_at l h.at).a) (plans u))
          (λ j. triple (e.same_s j) (e.same-p j) (e.same-o j)) (all h.at h.within))

  -- ---- sweep after sweep

  -- at first every row is due
  pub all_due : {turn one : ℕ} {l : Lanes} {n : ℕ} {rose : List ℕ} → turn ≤ 1 → Sound kind l n → RoundDue plans turn one kind l n (replicate words 18446744073709551615) rose
  all_due {l = l} h sound = record {
    sound = sound;
    settled = λ j q idle quiet. absurd (true≢false (sym (holds-all (row_at l j).s (legal-small (sound.legal j q)).small-s) ∙ (idle.by_set h).self));
  }

  module _ {l : Lanes} {n : ℕ} {m : Lanes} {n₁ : ℕ} {rose : List ℕ} (a : Settling R plans kind l n m n₁ rose) where
    -- the set is spread, and what rose is due in the next sweep
    pub sweep_due : {turn one : ℕ} → turn ≤ 1 → {rose' empty : List ℕ} → Spread m.subj m.pred m.obj n₁ rose rose' → RoundDue plans turn one kind m n₁ rose' empty
    sweep_due h s = record { sound = a.risen.sound; settled = λ j q idle quiet. a.waiting.settled j q (spread_quiet m s (triple_at m j) (idle.by_set h)) }

    -- a round more
    pub settled-more : {m₂ : Lanes} {changed₂ : Bool} {n₂ : ℕ} {rose₁ rose₂ : List ℕ} → RoundDrawn R plans kind m n₁ m₂ false changed₂ n₂ rose₁ rose₂
        → Settling R plans kind l n m₂ n₂ rose₂
    settled-more {changed₂ = changed₂} r = record {
      changed = a.changed || changed₂;
      risen = risen-then a.risen r.risen (either_or a.changed changed₂);
      waiting = record { sound = r.risen.sound; settled = r.settled refl };
    }

    pub saturated-then : {m₃ : Lanes} {f₃ : Bool} {n₃ : ℕ} → Saturated R kind m n₁ m₃ f₃ n₃ → Saturated R kind l n m₃ f₃ n₃
    saturated-then s = record { changed = a.changed || s.changed; risen = risen-then a.risen s.risen (either_or a.changed s.changed); closed = s.closed }

    pub full-then : {m₃ : Lanes} {changed₃ : Bool} {n₃ : ℕ} → Risen R kind m n₁ m₃ true changed₃ n₃ → Saturated R kind l n m₃ true n₃
    full-then {changed₃ = changed₃} s = record { changed = a.changed || changed₃; risen = risen-then a.risen s (either_or a.changed changed₃); closed = λ z. absurd (true≢false z) }

  -- ---- subject after subject

  pub settling_start : {l : Lanes} {n : ℕ} {rose : List ℕ} → Waiting plans kind l n rose → Settling R plans kind l n l n rose
  settling_start w = record { changed = false; risen = risen-none w.sound; waiting = w }

  module _ {l : Lanes} {n : ℕ} {m : Lanes} {n₁ : ℕ} {rose : List ℕ} (a : Settling R plans kind l n m n₁ rose) where
    pub settling_end : Chosen m.subj n₁ rose None → Saturated R kind l n m false n₁
    settling_end none = record {
      changed = a.changed;
      risen = a.risen;
      closed = λ _. rows-closed m n₁ a.waiting.sound (λ i q. a.waiting.settled i q (rows-quiet m none i q));
    }

    module _ {at : ℕ} {rose' : List ℕ} (c : WaitsAt m.subj n₁ rose at) (w : Without (row_at m at).s rose rose') where
      pub step-due : (turn : Turn) {due' : List ℕ} → AimedAt m n₁ (row_at m at).s due' turn → RoundDue plans (number_of turn) (one_of turn) kind m n₁ due' rose'
      step-due turn i = record {
        sound = a.waiting.sound;
        settled = λ j q idle quiet. a.waiting.settled j q (aimed_quiet m n₁ (row_at m at).s (number_of turn) i.0 w (triple_at m j) (idle_of i.1 idle) quiet);
      }

      module _ {m₂ : Lanes} {changed : Bool} {n₂ : ℕ} {rose₂ : List ℕ} (r : RoundDrawn R plans kind m n₁ m₂ false changed n₂ rose' rose₂) where
        fewer-wait : members rose' < members rose
        fewer-wait = members_fall (legal-small (a.waiting.sound.legal at c.there)).small-s c.waits w

        pub step_less : settle_left m₂ n₂ rose₂ < settle_left m n₁ rose
        step_less = ⊎_elim rises stays (which changed)
          where
            rises : changed ≡ true → settle_left m₂ n₂ rose₂ < settle_left m n₁ rose
            rises t =
                let s = sound-list r.risen.sound in
                let bound = total-bound kind (rows_of m₂ n₂) s.legal s.ascending in
                let falls : most_total - total (rows_of m₂ n₂) < most_total - total (rows_of m n₁) = omega (arith, r.risen.grows t, bound) in
                omega (arith, falls, members_most rose₂)

            stays : changed ≡ false → settle_left m₂ n₂ rose₂ < settle_left m n₁ rose
            stays z = rw ((r.risen.still z).0, (r.risen.still z).1, r.same z) (omega (arith, fewer-wait))

-- what is saturated from where the sweeps have come to, in a table of the same kind
pub settled-then : {R : Rules} {plans : Triple → List Plan} → Driven R plans → (t v u : Table) → v.kind ≡ t.kind → {rose : List ℕ}
    → Settling R plans (kind_number t.kind) (lanes_in t) t.count (lanes_in v) v.count rose → {A : Type 0} (x : Result A Full) → SaturatedIn R v u x → SaturatedIn R t u x
settled-then driven t v u e a (Ok x) s = saturated-then driven a (rw e at s)
settled-then driven t v u e a (Err x) s = saturated-then driven a (rw e at s)
