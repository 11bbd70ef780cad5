-- The order by keys is the order by subject, then predicate, then object; so what the check asks of rows (15), and what a sound table has, is that
-- order. By arithmetic: terms are below 65,536. Assumes nothing.
use mathlib.Core.Path.{◌≡◌}
use mathlib.Core.Bool.{true}
use mathlib.Core.Logic.{◌↔◌, ◌⊎◌, inl, inr}
use Prim.Native.Nat.{ℕ, suc, ◌≤◌, ◌<◌}
use native.Mathlib.Decide.{dec_lt}
use native.Mathlib.Omega.{arith}
use borrow.Author.Tests.{leb-true, le-leb}
use Rattle.table.specs.Rows.{Row, Lanes, key, row_at}
use Rattle.table.specs.Checks.{is_not_above}
use Rattle.table.specs.Sound.{LegalRow, Sound}
use Rattle.table.specs.Order.{RowBefore, RowsAscend}
use Rattle.table.proofs.Ordering.{Tri, less, same, more, tri}
use Rattle.table.proofs.Values.{Small, legal-small}

module _ (x y : Row) (sx : Small x) (sy : Small y) where
  key-before : key x < key y → RowBefore x y
  key-before h = by_subject (tri x.s y.s)
    where
      by_predicate : x.s ≡ y.s → Tri x.p y.p → (x.p < y.p) ⊎ ((x.p ≡ y.p) × (x.o < y.o))
      by_predicate e (less q) = inl q
      by_predicate e (same q) = inr (q, omega arith)
      by_predicate e (more q) = absurd (omega (arith, sx.small_o, sy.small_o))

      by_subject : Tri x.s y.s → RowBefore x y
      by_subject (less q) = inl q
      by_subject (same q) = inr (q, by_predicate q (tri x.p y.p))
      by_subject (more q) = absurd (omega (arith, sx.small_p, sx.small_o, sy.small_p, sy.small_o))

  before-key : RowBefore x y → key x < key y
  before-key (inl q) = omega (arith, sx.small_p, sx.small_o)
  before-key (inr (e, inl q)) = omega (arith, sx.small_o)
  before-key (inr (e, inr (f, q))) = omega arith

  pub key-order : (key x < key y) ↔ RowBefore x y
  key-order = (key-before, before-key)

-- "15: row not above the one before", of rows that are legal: 8, 9 and 10 come first
module _ (kind : ℕ) (l : Lanes) (i : ℕ) (h : LegalRow kind (row_at l i)) (g : LegalRow kind (row_at l (suc i))) where
  order : (key (row_at l i) < key (row_at l (suc i))) ↔ RowBefore (row_at l i) (row_at l (suc i))
  order = key-order (row_at l i) (row_at l (suc i)) (legal-small h) (legal-small g)

  not-below : (RowBefore (row_at l i) (row_at l (suc i)) → ⊥) → Dec (key (row_at l i) < key (row_at l (suc i))) → key (row_at l (suc i)) ≤ key (row_at l i)
  not-below w (yes q) = absurd (w (order.0 q))
  not-below w (no q) = omega arith

  pub not-above_exactly : (is_not_above l.subj l.pred l.obj (suc i) ≡ true) ↔ (RowBefore (row_at l i) (row_at l (suc i)) → ⊥)
  not-above_exactly = (
    λ e b. let w = leb-true (key (row_at l (suc i))) (key (row_at l i)) e in omega (arith, order.1 b),
    λ w. le-leb (key (row_at l (suc i))) (key (row_at l i)) (not-below w (dec_lt (key (row_at l i)) (key (row_at l (suc i))))),
  )

-- "The first 'count' rows are legal and strictly ascending by subject, then predicate, then object": `Sound` says it of the keys
pub ascending-exactly : (kind : ℕ) (l : Lanes) (n : ℕ) → ((i : ℕ) → i < n → LegalRow kind (row_at l i))
    → ((i : ℕ) → suc i < n → key (row_at l i) < key (row_at l (suc i))) ↔ RowsAscend l n
ascending-exactly kind l n legal = (
  λ h i q. (key-order (row_at l i) (row_at l (suc i)) (legal-small (legal i (omega arith))) (legal-small (legal (suc i) q))).0 (h i q),
  λ h i q. (key-order (row_at l i) (row_at l (suc i)) (legal-small (legal i (omega arith))) (legal-small (legal (suc i) q))).1 (h i q),
)

pub sound-ascends : {kind : ℕ} {l : Lanes} {n : ℕ} → Sound kind l n → RowsAscend l n
sound-ascends {kind} {l} {n} h = (ascending-exactly kind l n h.legal).0 h.ascending
