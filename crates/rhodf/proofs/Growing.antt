-- The graph of rows with a row added is the least one that is above the rows' and holds the row; and where it is another, the sum of annotations rose.
-- Assumes nothing.
use mathlib.Core.Path.{◌≡◌, refl, ◌∙◌}
use mathlib.Core.Bool.{Bool, true, false}
use mathlib.Core.List.{List}
use Prim.Native.Nat.{ℕ, ◌<◌}
use native.Mathlib.Omega.{arith}
use Rattle.annotation.specs.Algebra.{Algebra, AtMost, Laws}
use Rattle.annotation.specs.Kinds.{algebra}
use Rattle.annotation.proofs.KindLaws.{laws}
use Rattle.annotation.proofs.Legal.{legal-value}
use Rattle.annotation.proofs.Order.{at_most_self, at_most_join_left, join-at_most, join-raises}
use Rattle.table.specs.Rows.{Triple, Row, add_row, is_triple, value_at, total}
use Rattle.table.specs.Sound.{Ascending, SoundRows}
use Rattle.table.proofs.Ordering.{Tri, less, same, more, tri}
use Rattle.table.proofs.Values.{Small, AllSmall, triple_of, triple-tells, value-add_same, value-add_other, held-legal}
use Rattle.table.proofs.Totals.{total-add}
use Rattle.rhodf.specs.Graph.{Graph, graph_of, Valued, Below}

-- the annotations of sound rows are values
pub rows-valued : (kind : ℕ) (rows : List Row) → SoundRows kind rows → Valued (algebra kind) (graph_of rows)
rows-valued kind rows s = record { value = λ t. go t (tri 0 (value_at rows t)) }
  where
    go : (t : Triple) → Tri 0 (value_at rows t) → (algebra kind).Value (value_at rows t)
    go t (less h) = (legal-value (value_at rows t) kind (held-legal kind rows s.legal t h).annotation).1
    go t (same e) = rw (← e) (laws kind).bottom_value
    go t (more h) = absurd (omega arith)

module _ (K : Algebra) (L : Laws K) (r : Row) (rows : List Row) (small : Small r) (smalls : AllSmall rows) (ascending : Ascending rows) where
  -- at the row's triple the join, elsewhere as before
  pub at_each : (P : Triple → ℕ → Type 0) → P (triple_of r) (K.join (value_at rows (triple_of r)) r.a) → ((t : Triple) → P t (value_at rows t))
      → (t : Triple) → P t (value_at (add_row K r rows) t)
  at_each P here elsewhere t = go (is_triple t r) refl
    where
      go : (b : Bool) → is_triple t r ≡ b → P t (value_at (add_row K r rows) t)
      go true e = rw (← triple-tells t r e, value-add_same K r small L rows smalls ascending) here
      go false e = rw (value-add_other K r small rows smalls t e) (elsewhere t)

  pub below-added : Below K (graph_of rows) (graph_of (add_row K r rows))
  below-added = record {
    below = at_each (λ t a. AtMost K (value_at rows t) a) (at_most_join_left K L (value_at rows (triple_of r)) r.a) (λ t. at_most_self K L (value_at rows t));
  }

  pub added_below : (H : Graph) → Below K (graph_of rows) H → AtMost K r.a (H (triple_of r)) → Below K (graph_of (add_row K r rows)) H
  added_below H b h = record {
    below = at_each (λ t a. AtMost K a (H t)) (join-at_most K L (value_at rows (triple_of r)) r.a (H (triple_of r)) (b.below (triple_of r)) h) b.below;
  }

  pub added_raises : (AtMost K r.a (value_at rows (triple_of r)) → ⊥) → total rows < total (add_row K r rows)
  added_raises h =
      let old : ℕ = value_at rows (triple_of r) in
      omega (
        arith,
        total-add K r small rows smalls ascending,
        value-add_same K r small L rows smalls ascending,
        join-raises K L old r.a (λ e. h (L.join_comm r.a old ∙ e)),
      )
