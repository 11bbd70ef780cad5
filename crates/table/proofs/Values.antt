-- A table's graph with a row added: at the row's triple the join, at every other triple as before. Assumes nothing.
use mathlib.Core.Path.{◌≡◌, refl, sym, ap, ◌∙◌}
use mathlib.Core.Bool.{Bool, true, false, cond, ◌&&◌, true≢false}
use mathlib.Core.List.{List, [], ◌∷◌}
use Prim.Native.Nat.{ℕ, zero, suc, ◌<◌}
use native.Mathlib.Omega.{arith}
use lib.Dec.{eqb}
use borrow.Author.Tests.{eq-eqb, eqb-true}
use Rattle.ground.specs.Lists.{tab}
use Rattle.annotation.specs.Algebra.{Algebra, Laws}
use Rattle.term.proofs.Sorts.{legal-below, name_below}
use Rattle.table.specs.Rows.{Triple, Row, triple, row, key, key_of, joined, add_row, is_triple, value_at}
use Rattle.table.specs.Sound.{LegalRow, Over, Ascending, AllLegal}
use Rattle.table.proofs.Ordering.{Tri, less, same, more, tri, add_none, add_less, add_same, add_more, over-down}

-- a row whose terms are 16-bit numbers: its key tells its triple
pub record Small (r : Row) : Type 0 where
  pub small-s : r.s < 65536
  pub small_p : r.p < 65536
  pub small_o : r.o < 65536

pub legal-small : {kind : ℕ} {r : Row} → LegalRow kind r → Small r
legal-small {kind} {r} h = record {
  small-s = omega (arith, legal-below r.s h.subject);
  small_p = omega (arith, name_below r.p h.predicate);
  small_o = omega (arith, legal-below r.o h.object);
}

abbrev pub AllSmall : List Row → Type 0
AllSmall [] = Unit {0}
AllSmall (x ∷ xs) = Small x × AllSmall xs

pub all_legal_small : (kind : ℕ) (R : List Row) → AllLegal kind R → AllSmall R
unfolding AllLegal
all_legal_small kind [] h = tt
all_legal_small kind (x ∷ xs) h = (legal-small h.0, all_legal_small kind xs h.1)

abbrev pub triple_of : Row → Triple
triple_of r = triple r.s r.p r.o

all_three : (a b c : Bool) → a && (b && c) ≡ true → (a ≡ true) × (b ≡ true) × (c ≡ true)
all_three true true c h = (refl, refl, h)
all_three true false c h = absurd (true≢false (sym h))
all_three false b c h = absurd (true≢false (sym h))

pub is-triple : (t : Triple) (x : Row) → x.s ≡ t.s → x.p ≡ t.p → x.o ≡ t.o → is_triple t x ≡ true
is-triple t x es ep eo = rw (eq-eqb x.s t.s es, eq-eqb x.p t.p ep, eq-eqb x.o t.o eo) refl

-- a row of a triple
pub record RowOf (t : Triple) (x : Row) : Type 0 where
  pub same_s : x.s ≡ t.s
  pub same-p : x.p ≡ t.p
  pub same-o : x.o ≡ t.o

pub triple-is : (t : Triple) (x : Row) → is_triple t x ≡ true → RowOf t x
triple-is t x e =
    let b = all_three (eqb x.s t.s) (eqb x.p t.p) (eqb x.o t.o) e in
    record { same_s = eqb-true x.s t.s b.0; same-p = eqb-true x.p t.p b.1; same-o = eqb-true x.o t.o b.2 }

pub triple-tells : (t : Triple) (x : Row) → is_triple t x ≡ true → triple_of x ≡ t
triple-tells t x e = let b = triple-is t x e in λ i. triple (b.same_s i) (b.same-p i) (b.same-o i)

not-true : (b : Bool) → (b ≡ true → ⊥) → b ≡ false
not-true true h = absurd (h refl)
not-true false h = refl

-- another key is another triple
pub not-triple : (t : Triple) (x : Row) → (key x ≡ key_of t.s t.p t.o → ⊥) → is_triple t x ≡ false
not-triple t x h = not-true (is_triple t x) (λ e. let b = triple-is t x e in h (rw (b.same_s, b.same-p, b.same-o) refl))

-- equal keys of small rows are equal triples
pub key-tells : (x r : Row) → Small x → Small r → key x ≡ key r → RowOf (triple_of r) x
key-tells x r sx sr e = record { same_s = omega arith; same-p = omega arith; same-o = omega arith }

pub value_none : (t : Triple) → value_at [] t ≡ 0
unfolding value_at
value_none t = refl

module _ (x : Row) (xs : List Row) (t : Triple) where
  pub value-here : is_triple t x ≡ true → value_at (x ∷ xs) t ≡ x.a
  unfolding value_at
  value-here h = rw h refl

  pub value_there : is_triple t x ≡ false → value_at (x ∷ xs) t ≡ value_at xs t
  unfolding value_at
  value_there h = rw h refl

pub first-value : (x : Row) (xs : List Row) → value_at (x ∷ xs) (triple_of x) ≡ x.a
first-value x xs = value-here x xs (triple_of x) (is-triple (triple_of x) x refl refl refl)

value-tail : (x : Row) (xs ys : List Row) (t : Triple) → value_at xs t ≡ value_at ys t → value_at (x ∷ xs) t ≡ value_at (x ∷ ys) t
unfolding value_at
value-tail x xs ys t e = ap (λ (z : ℕ). cond (is_triple t x) x.a z) e

-- rows above a triple's key do not hold it
pub over-value : (t : Triple) (R : List Row) → Over (key_of t.s t.p t.o) R → value_at R t ≡ 0
unfolding Over
over-value t [] o = value_none t
over-value t (x ∷ xs) o = value_there x xs t (not-triple t x (λ e. omega (arith, o.0))) ∙ over-value t xs o.1

module _ (K : Algebra) (r : Row) (small : Small r) where
  pub value-add_other : (R : List Row) → AllSmall R → (t : Triple) → is_triple t r ≡ false → value_at (add_row K r R) t ≡ value_at R t
  value-add_other [] w t h = rw (add_none K r) (value_there r [] t h)
  value-add_other (x ∷ xs) w t h = go (tri (key r) (key x)) (value-add_other xs w.1 t h)
    where
      go : Tri (key r) (key x) → value_at (add_row K r xs) t ≡ value_at xs t → value_at (add_row K r (x ∷ xs)) t ≡ value_at (x ∷ xs) t
      go (less q) ih = rw (add_less K r x xs q) (value_there r (x ∷ xs) t h)
      go (same q) ih =
          let e = key-tells x r w.0 small (sym q) in
          let n : is_triple t x ≡ false = rw (e.same_s, e.same-p, e.same-o) h in
          rw (add_same K r x xs q) (value_there (joined K r x) xs t n ∙ sym (value_there x xs t n))
      go (more q) ih = rw (add_more K r x xs q) (value-tail x (add_row K r xs) xs t ih)

  module _ (L : Laws K) where
    pub value-add_same : (R : List Row) → AllSmall R → Ascending R
        → value_at (add_row K r R) (triple_of r) ≡ K.join (value_at R (triple_of r)) r.a
    unfolding Ascending Over
    value-add_same [] w s =
        rw (add_none K r, value_none (triple_of r))
        (value-here r [] (triple_of r) (is-triple (triple_of r) r refl refl refl) ∙ sym (L.join_comm 0 r.a ∙ L.join_bottom r.a))
    value-add_same (x ∷ xs) w s = go (tri (key r) (key x)) (value-add_same xs w.1 s.1)
      where
        go : Tri (key r) (key x) → value_at (add_row K r xs) (triple_of r) ≡ K.join (value_at xs (triple_of r)) r.a
            → value_at (add_row K r (x ∷ xs)) (triple_of r) ≡ K.join (value_at (x ∷ xs) (triple_of r)) r.a
        go (less q) ih =
            rw (add_less K r x xs q, over-value (triple_of r) (x ∷ xs) (q, over-down (key r) (key x) xs q s.0))
            (value-here r (x ∷ xs) (triple_of r) (is-triple (triple_of r) r refl refl refl) ∙ sym (L.join_comm 0 r.a ∙ L.join_bottom r.a))
        go (same q) ih =
            let e = key-tells x r w.0 small (sym q) in
            let y : is_triple (triple_of r) x ≡ true = is-triple (triple_of r) x e.same_s e.same-p e.same-o in
            rw (add_same K r x xs q, value-here x xs (triple_of r) y) (value-here (joined K r x) xs (triple_of r) y)
        go (more q) ih =
            let n : is_triple (triple_of r) x ≡ false = not-triple (triple_of r) x (λ e. omega arith) in
            rw (add_more K r x xs q, value_there x xs (triple_of r) n) (value_there x (add_row K r xs) (triple_of r) n ∙ ih)

-- the annotation at a row's index, and 0 where the key is missing
pub value-at : (n : ℕ) (f : ℕ → Row) (t : Triple) (i : ℕ) → i < n
    → ((j : ℕ) → j < i → key (f j) < key_of t.s t.p t.o) → is_triple t (f i) ≡ true → value_at (tab n f) t ≡ (f i).a
unfolding tab
value-at zero f t i h below e = absurd (omega arith)
value-at (suc n) f t zero h below e = value-here (f zero) (tab n (λ i. f (suc i))) t e
value-at (suc n) f t (suc i) h below e =
    value_there (f zero) (tab n (λ i. f (suc i))) t (not-triple t (f zero) (λ z. omega (arith, below zero (omega arith))))
    ∙ value-at n (λ i. f (suc i)) t i (omega arith) (λ j q. below (suc j) (omega arith)) e

-- a triple that legal rows hold is, with its annotation, a legal row
pub held-legal : (kind : ℕ) (R : List Row) → AllLegal kind R → (t : Triple) → 0 < value_at R t
    → LegalRow kind (row t.s t.p t.o (value_at R t))
unfolding AllLegal
held-legal kind [] w t h = absurd (omega (arith, value_none t))
held-legal kind (x ∷ xs) w t h = go (is_triple t x) refl (held-legal kind xs w.1 t)
  where
    go : (b : Bool) → is_triple t x ≡ b → (0 < value_at xs t → LegalRow kind (row t.s t.p t.o (value_at xs t)))
        → LegalRow kind (row t.s t.p t.o (value_at (x ∷ xs) t))
    go true e later = let b = triple-is t x e in rw (value-here x xs t e, ← b.same_s, ← b.same-p, ← b.same-o) w.0
    go false e later = rw (value_there x xs t e) (later (rw (value_there x xs t e) at h))

-- a triple that the rows hold is a row of theirs
pub record RowHeld (n : ℕ) (f : ℕ → Row) (t : Triple) : Type 0 where
  pub at : ℕ
  pub within : at < n
  pub is_row : RowOf t (f at)
  pub value-is : value_at (tab n f) t ≡ (f at).a

pub held-row : (n : ℕ) (f : ℕ → Row) (t : Triple) → 0 < value_at (tab n f) t → RowHeld n f t
unfolding tab
held-row zero f t h = absurd (omega (arith, value_none t))
held-row (suc n) f t h = go (is_triple t (f zero)) refl (held-row n (λ i. f (suc i)) t)
  where
    go : (b : Bool) → is_triple t (f zero) ≡ b → (0 < value_at (tab n (λ i. f (suc i))) t → RowHeld n (λ i. f (suc i)) t) → RowHeld (suc n) f t
    go true e again = record {
      at = zero;
      within = omega arith;
      is_row = triple-is t (f zero) e;
      value-is = value-here (f zero) (tab n (λ i. f (suc i))) t e;
    }
    go false e again =
        let same = value_there (f zero) (tab n (λ i. f (suc i))) t e in
        let r = again (rw same at h) in
        record { at = suc r.at; within = omega (arith, r.within); is_row = r.is_row; value-is = same ∙ r.value-is }
