-- While a round goes on, the rows that it has passed obey their plans unless they meet what rose; rows may move, and keep their order. Assumes nothing.
use mathlib.Core.Path.{◌≡◌, refl, sym, subst, ◌∙◌}
use mathlib.Core.Bool.{Bool, true, false, true≢false}
use mathlib.Core.List.{List}
use mathlib.Core.Logic.{inl, inr, ⊎_elim}
use Prim.Native.Nat.{ℕ, zero, suc, ◌+◌, ◌-◌, ◌≤◌, ◌<◌}
use native.Mathlib.Omega.{arith}
use Rattle.ground.specs.Lists.{All}
use Rattle.term.specs.Term.{sp, dom, range}
use Rattle.annotation.specs.Kinds.{algebra}
use Rattle.annotation.proofs.KindLaws.{laws}
use Rattle.annotation.proofs.Legal.{legal-value}
use Rattle.annotation.proofs.Order.{at_most_le}
use Rattle.table.specs.Rows.{Lanes, Triple, triple, key, row_at, rows_of}
use Rattle.table.specs.Sound.{Sound}
use Rattle.table.proofs.Soundness.{sound-list}
use Rattle.table.proofs.Ordering.{Tri, less, same, more, tri, climbs}
use Rattle.table.proofs.Values.{RowHeld, held-row}
use Rattle.rhodf.specs.Graph.{Graph, graph_of, Below}
use Rattle.rhodf.specs.Rules.{Rules}
use Rattle.rhodf.proofs.Growing.{rows-valued}
use Rattle.termset.specs.Termset.{holds, Among}
use Rattle.termset.proofs.Holding.{not-among}
use Rattle.plans.specs.declared.Plan.{Plan}
use Rattle.plans.specs.Plans.{Obeyed}
use Rattle.walks.proofs.Rising.{which}
use Rattle.walks.proofs.Neighbours.{row-value, row-held}
use Rattle.rounds.specs.Due.{Still, Idle, Typed, Quiet}
use Rattle.rounds.specs.Rounds.{triple_at, RowObeyed, RowAsked}
use Rattle.rounds.proofs.Staying.{Apart, Staying}

-- ---- smaller sets

pub still_before : {a b : List ℕ} {t : Triple} → Among a b → Still b t → Still a t
still_before {a} {b} {t} h s = record {
  self = not-among h t.s s.self;
  by_predicate = not-among h t.p s.by_predicate;
  by_object = λ p. not-among h t.o (s.by_object p);
}

idle_before : {turn one : ℕ} {a b : List ℕ} {t : Triple} → Among a b → Idle turn one b t → Idle turn one a t
idle_before h i = record { by_set = λ w. still_before h (i.by_set w); by_one = i.by_one }

quiet-apart : {a : List ℕ} {G : Graph} {t : Triple} → Quiet a G t → Apart (λ x. holds a x ≡ true) G t
quiet-apart q = record {
  by_predicate = λ r w h e. true≢false (sym e ∙ q.by_predicate r w h);
  by_object = λ p r w h e. true≢false (sym e ∙ q.by_object p r w h);
  behind = λ z h k e. true≢false (sym e ∙ q.behind z h k);
}

-- ---- rows and their triples

module _ {kind : ℕ} {l : Lanes} {n : ℕ} (sound : Sound kind l n) where
  pub row-positive : (j : ℕ) → j < n → 0 < graph_of (rows_of l n) (triple_at l j)
  row-positive j h = rw (row-held kind l n sound j h) (legal-value (row_at l j).a kind (sound.legal j h).annotation).0

-- where row j of n may stand among n', if rows were put in
pub record Moved (n n' j i : ℕ) : Type 0 where
  pub low : j ≤ i
  pub high : i + n ≤ j + n'

-- a table that has risen
module _ {kind : ℕ} {l : Lanes} {n : ℕ} {m : Lanes} {n' : ℕ} (before : Sound kind l n) (after : Sound kind m n')
    (up : Below (algebra kind) (graph_of (rows_of l n)) (graph_of (rows_of m n'))) where
  above-positive : (t : Triple) → 0 < graph_of (rows_of l n) t → 0 < graph_of (rows_of m n') t
  above-positive t h = omega (arith, h, at_most_le (algebra kind) (laws kind) (graph_of (rows_of l n) t) (graph_of (rows_of m n') t) (up.below t))

  quiet-before : {a b : List ℕ} {t : Triple} → Among a b → Quiet b (graph_of (rows_of m n')) t → Quiet a (graph_of (rows_of l n)) t
  quiet-before {a} {b} {t} h q = record {
    self = not-among h t.s q.self;
    by_predicate = λ r w p. not-among h t.p (q.by_predicate r w (above-positive (triple t.p r w) p));
    by_object = λ d r w p. not-among h t.o (q.by_object d r w (above-positive (triple t.o r w) p));
    behind = λ z p k. not-among h z (q.behind z (above-positive (triple t.p sp z) p) (typed z k));
  }
    where
      typed : (z : ℕ) → Typed (graph_of (rows_of l n)) z → Typed (graph_of (rows_of m n')) z
      typed z k = (k.0, ⊎_elim (λ p. inl (above-positive (triple z dom k.0) p)) (λ p. inr (above-positive (triple z range k.0) p)) k.1)

  -- a row keeps its place or moves up
  place-grows : (j i : ℕ) → j < n → i < n' → key (row_at l j) ≡ key (row_at m i) → j ≤ i
  place-grows zero i hj hi e = omega arith
  place-grows (suc j) i hj hi e =
      let f = held-row n' (row_at m) (triple_at l j) (above-positive (triple_at l j) (row-positive before j (omega arith))) in
      let r = f.is_row in
      let ek : key (row_at m f.at) ≡ key (row_at l j) = rw (r.same_s, r.same-p, r.same-o) refl in
      go f.at f.within ek (place-grows j f.at (omega arith) f.within (sym ek)) (tri f.at i)
    where
      go : (k : ℕ) → k < n' → key (row_at m k) ≡ key (row_at l j) → j ≤ k → Tri k i → suc j ≤ i
      go k w ek ih (less z) = omega arith
      go k w ek ih (same z) =
          let eq : key (row_at m k) ≡ key (row_at m i) = rw z refl in
          absurd (omega (arith, eq, before.ascending j hj))
      go k w ek ih (more z) = absurd (omega (arith, climbs n' (λ x. key (row_at m x)) after.ascending k i z w, before.ascending j hj))

  -- and with it those behind it: from the end, too
  place-falls : (d j i : ℕ) → suc j + d ≡ n → i < n' → key (row_at l j) ≡ key (row_at m i) → suc i + d ≤ n'
  place-falls zero j i en hi e = omega arith
  place-falls (suc d) j i en hi e =
      let f = held-row n' (row_at m) (triple_at l (suc j)) (above-positive (triple_at l (suc j)) (row-positive before (suc j) (omega arith))) in
      let r = f.is_row in
      let ek : key (row_at m f.at) ≡ key (row_at l (suc j)) = rw (r.same_s, r.same-p, r.same-o) refl in
      go f.at f.within ek (place-falls d (suc j) f.at (omega arith) f.within (sym ek)) (tri i f.at)
    where
      go : (k : ℕ) → k < n' → key (row_at m k) ≡ key (row_at l (suc j)) → suc k + d ≤ n' → Tri i k → suc i + suc d ≤ n'
      go k w ek ih (less z) = omega arith
      go k w ek ih (same z) =
          let eq : key (row_at m i) ≡ key (row_at m k) = rw z refl in
          absurd (omega (arith, eq, before.ascending j (omega arith)))
      go k w ek ih (more z) = absurd (omega (arith, climbs n' (λ x. key (row_at m x)) after.ascending i k z hi, before.ascending j (omega arith)))

  moved : (j i : ℕ) → j < n → i < n' → key (row_at l j) ≡ key (row_at m i) → Moved n n' j i
  moved j i hj hi e = record { low = place-grows j i hj hi e; high = let w = place-falls (n - suc j) j i (omega arith) hi e in omega (arith, w) }

-- ---- what a round has settled

-- a row that meets nothing that waits obeys its plans, if it is not to come any more or is not due
abbrev pub Settled : (Triple → List Plan) → ℕ → ℕ → ℕ → List ℕ → List ℕ → (ℕ → Type 0) → Lanes → ℕ → Type 0
Settled plans turn one kind due rose To l n =
    (j : ℕ) → j < n → Quiet rose (graph_of (rows_of l n)) (triple_at l j) → (To j → Idle turn one due (triple_at l j)) → RowObeyed plans kind l n j

-- row i is asked; of the rows that are to come before, those are to come after, wherever they stand then
module _ {R : Rules} {plans : Triple → List Plan} (staying : Staying plans) {turn one kind : ℕ} {l : Lanes} {n i : ℕ} {m : Lanes} {full changed : Bool} {n' : ℕ}
    {due due' rose rose' : List ℕ} (sound : Sound kind l n) (a : RowAsked R plans kind l n i m full changed n' due due' rose rose')
    (room : full ≡ false) (To To' : ℕ → Type 0) (comes : (j k : ℕ) → Moved n n' j k → (j ≡ i → ⊥) → To j → To' k) (settled : Settled plans turn one kind due rose To l n) where
  abbrev G : Graph
  G = graph_of (rows_of l n)

  abbrev H : Graph
  H = graph_of (rows_of m n')

  asked : Quiet rose' H (triple_at l i) → RowObeyed plans kind l n i
  asked q = ⊎_elim
      (λ t. absurd (true≢false (sym (a.again t) ∙ q.self)))
      (a.drew.inside room) (which changed)

  passed : (j : ℕ) → j < n → Quiet rose' H (triple_at l j) → ((j ≡ i → ⊥) → To j → Idle turn one due' (triple_at l j)) → RowObeyed plans kind l n j
  passed j h q w = go (tri i j)
    where
      before : (j ≡ i → ⊥) → RowObeyed plans kind l n j
      before other = settled j h (quiet-before sound a.drew.risen.sound a.drew.risen.up a.rose_more q) (λ t. idle_before a.due_more (w other t))

      go : Tri i j → RowObeyed plans kind l n j
      go (less z) = before (λ e. omega arith)
      go (same z) = subst (λ (k : ℕ). Quiet rose' H (triple_at l k) → RowObeyed plans kind l n k) z asked q
      go (more z) = before (λ e. omega arith)

  pub settled_on : Settled plans turn one kind due' rose' To' m n'
  settled_on j h q w =
      let t : Triple = triple_at m j in
      let sound' = a.drew.risen.sound in
      let e : H t ≡ G t = a.drew.kept t (λ z. true≢false (sym z ∙ q.self)) in
      let f : RowHeld n (row_at l) t = held-row n (row_at l) t (omega (arith, e, row-positive sound' j h)) in
      let r = f.is_row in
      let is : triple_at l f.at ≡ t = λ k. triple (r.same_s k) (r.same-p k) (r.same-o k) in
      let ek : key (row_at l f.at) ≡ key (row_at m j) = rw (r.same_s, r.same-p, r.same-o) refl in
      let place : Moved n n' f.at j = moved sound sound' a.drew.risen.up f.at j f.within h ek in
      let o : RowObeyed plans kind l n f.at = passed f.at f.within
      (subst (λ (u : Triple). Quiet rose' H u) (sym is) q) (λ other t. subst (λ (u : Triple). Idle turn one due' u) (sym is) (w (comes f.at j place other t))) in
      let all : All (λ plan. Obeyed (algebra kind) G plan (row_at l f.at).a) (plans t)
      = subst (λ (u : Triple). All (λ plan. Obeyed (algebra kind) G plan (row_at l f.at).a) (plans u)) is o in
      subst (λ (v : ℕ). All (λ plan. Obeyed (algebra kind) H plan v) (plans t)) (sym f.value-is ∙ sym e ∙ row-held kind m n' sound' j h)
      (staying.stays (algebra kind) (laws kind) (λ x. holds rose' x ≡ true) G H (rows-valued kind (rows_of m n') (sound-list sound')) a.drew.risen.up a.drew.kept
      t (quiet-apart q) (row_at l f.at).a (row-value kind l n sound f.at f.within) all)
