-- The rows of a sound table, in its graph; and those that begin with two terms stand together, so a walk along them meets them all. Assumes nothing.
use mathlib.Core.Path.{◌≡◌, refl, sym, subst₂}
use Prim.Native.Nat.{ℕ, ◌≤◌, ◌<◌}
use native.Mathlib.Omega.{arith}
use Rattle.annotation.specs.Algebra.{AtMost}
use Rattle.annotation.specs.Kinds.{algebra}
use Rattle.annotation.proofs.Legal.{legal-value}
use Rattle.table.specs.Rows.{Lanes, triple, key_of, key, row_at, rows_of}
use Rattle.table.specs.Sound.{Sound}
use Rattle.table.specs.Places.{Placed}
use Rattle.table.proofs.Ordering.{Tri, less, same, more, tri, climbs}
use Rattle.table.proofs.Values.{legal-small, held-row, value-at, is-triple}
use Rattle.rhodf.specs.Graph.{Graph, graph_of, Below}

-- rows of a sound table
module _ (kind : ℕ) (l : Lanes) (n : ℕ) (sound : Sound kind l n) where
  pub row-value : (i : ℕ) → i < n → (algebra kind).Value (row_at l i).a
  row-value i h = (legal-value (row_at l i).a kind (sound.legal i h).annotation).1

  -- a row's triple has its annotation in the table's graph
  pub row-held : (i : ℕ) → i < n → graph_of (rows_of l n) (triple (row_at l i).s (row_at l i).p (row_at l i).o) ≡ (row_at l i).a
  row-held i h =
      value-at n (row_at l) (triple (row_at l i).s (row_at l i).p (row_at l i).o) i h
      (λ j q. climbs n (λ k. key (row_at l k)) sound.ascending i j q h)
      (is-triple (triple (row_at l i).s (row_at l i).p (row_at l i).o) (row_at l i) refl refl refl)

  -- a graph above the table has each row's annotation
  pub row_below : (i q r : ℕ) → i < n → (row_at l i).s ≡ q → (row_at l i).p ≡ r → (H : Graph) → Below (algebra kind) (graph_of (rows_of l n)) H
      → AtMost (algebra kind) (row_at l i).a (H (triple q r (row_at l i).o))
  row_below i q r h es ep H b = rw (← es, ← ep) (rw (row-held i h) at (b.below (triple (row_at l i).s (row_at l i).p (row_at l i).o)))

  -- the rows that begin with q and r stand together, from the place of (q r 0) on
  module _ (q r at : ℕ) (small : r < 65536) (pl : Placed l.subj l.pred l.obj n (key_of q r 0) at) where
    pub none_before : (k : ℕ) → k < at → (row_at l k).s ≡ q → (row_at l k).p ≡ r → ⊥
    none_before k h es ep = omega (arith, pl.before k h)

    from_place : (i : ℕ) → at ≤ i → i < n → key_of q r 0 ≤ key (row_at l i)
    from_place i h w = go (tri at i)
      where
        go : Tri at i → key_of q r 0 ≤ key (row_at l i)
        go (less z) = omega (arith, pl.reached (omega arith), climbs n (λ k. key (row_at l k)) sound.ascending i at z w)
        go (same z) = rw (← z) (pl.reached (omega arith))
        go (more z) = absurd (omega arith)

    module _ (i : ℕ) (reached : at ≤ i) (stops : i < n → (row_at l i).s ≡ q → (row_at l i).p ≡ r → ⊥) where
      none-past : (k : ℕ) → i ≤ k → k < n → (row_at l k).s ≡ q → (row_at l k).p ≡ r → ⊥
      none-past k h w es ep = go (tri i k)
        where
          go : Tri i k → ⊥
          go (less z) =
              let si = legal-small (sound.legal i (omega arith)) in
              let sk = legal-small (sound.legal k w) in
              let up = climbs n (λ k. key (row_at l k)) sound.ascending k i z w in
              let low = from_place i reached (omega arith) in
              let e : (row_at l i).s ≡ q = omega (arith, si.small_p, si.small_o, sk.small_o) in
              stops (omega arith) e (omega (arith, si.small_o, sk.small_o))
          go (same z) = stops (omega arith) (rw z es) (rw z ep)
          go (more z) = absurd (omega arith)

      -- so what is shown of the rows passed is shown of every triple that holds
      pub all_partners : (Q : ℕ → ℕ → Type 0) → ((k : ℕ) → k < i → (row_at l k).s ≡ q → (row_at l k).p ≡ r → Q (row_at l k).o (row_at l k).a)
          → (z : ℕ) → 0 < graph_of (rows_of l n) (triple q r z) → Q z (graph_of (rows_of l n) (triple q r z))
      all_partners Q passed z h =
          let f = held-row n (row_at l) (triple q r z) h in
          let e = f.is_row in
          subst₂ Q e.same-o (sym f.value-is) (go (tri f.at i) f.within e.same_s e.same-p)
        where
          go : {k : ℕ} → Tri k i → k < n → (row_at l k).s ≡ q → (row_at l k).p ≡ r → Q (row_at l k).o (row_at l k).a
          go {k} (less w) b es ep = passed k w es ep
          go {k} (same w) b es ep = absurd (none-past k (omega arith) b es ep)
          go {k} (more w) b es ep = absurd (none-past k (omega arith) b es ep)
