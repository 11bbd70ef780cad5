-- Strides from the back, and halvings, leave the place between what they keep. Assumes nothing.
use mathlib.Core.List.{List}
use Prim.Native.Nat.{ℕ, ◌+◌, ◌-◌, ◌/◌, ◌≤◌, ◌<◌}
use native.Mathlib.Omega.{arith}
use Rattle.table.specs.Rows.{key_at}
use Rattle.table.specs.Places.{Ordered, Between, Halving, Halved}
use Rattle.table.proofs.Ordering.{Tri, less, same, more, tri, climbs}

module _ (S P O : List ℕ) (n k : ℕ) (h : Ordered S P O n) where
  -- a key behind the row before `at` is behind all rows before it
  pub before-all : (at : ℕ) → at ≤ n → (0 < at → key_at S P O (at - 1) < k) → (i : ℕ) → i < at → key_at S P O i < k
  before-all at w q i l = go (tri i (at - 1))
    where
      go : Tri i (at - 1) → key_at S P O i < k
      go (less z) = omega (arith, climbs n (key_at S P O) h.ascending (at - 1) i z (omega arith), q (omega arith))
      go (same z) = rw z (q (omega arith))
      go (more z) = absurd (omega arith)

  -- and one behind row `at` is behind all rows up to it
  up-to : (at : ℕ) → at < n → key_at S P O at < k → (i : ℕ) → i < at + 1 → key_at S P O i < k
  up-to at w q i l = go (tri i at)
    where
      go : Tri i at → key_at S P O i < k
      go (less z) = omega (arith, climbs n (key_at S P O) h.ascending at i z w, q)
      go (same z) = rw z q
      go (more z) = absurd (omega arith)

  pub between-past : 0 < n → key_at S P O (n - 1) < k → Between S P O n k n n
  between-past s q = record { kept = omega arith; within = omega arith; before = before-all n (omega arith) (λ _. q); reached = λ z. absurd (omega arith) }

  -- where strides begin: behind all rows, or at a row that is not below the key; a stride whose row is below it
  pub stride_begins : Between S P O n k 0 n
  stride_begins = record { kept = omega arith; within = omega arith; before = λ i l. absurd (omega arith); reached = λ z. absurd (omega arith) }

  pub stride_on : (at high : ℕ) → Between S P O n k 0 high → at < high → k ≤ key_at S P O at → Between S P O n k 0 at
  stride_on at high b l q = record { kept = omega arith; within = omega (arith, b.within); before = λ i z. absurd (omega arith); reached = λ z. q }

  pub stride_found : (at high : ℕ) → Between S P O n k 0 high → at < high → key_at S P O at < k → Between S P O n k (at + 1) high
  stride_found at high b l q = record { kept = omega arith; within = b.within; before = up-to at (omega (arith, b.within)) q; reached = b.reached }

module _ (S P O : List ℕ) (n k low high : ℕ) (h : Halving S P O n k low high) where
  abbrev middle : ℕ
  middle = low + (high - low) / 2

  pub halved_up : key_at S P O middle < k → Halved S P O n k low high (middle + 1) high
  halved_up q = record {
    fewer = omega (arith, h.some);
    between = record { kept = omega (arith, h.some); within = h.between.within; before = up-to S P O n k h.ordered middle (omega (arith, h.some, h.between.within)) q; reached = h.between.reached };
  }

  pub halved_down : k ≤ key_at S P O middle → Halved S P O n k low high low middle
  halved_down q = record {
    fewer = omega (arith, h.some);
    between = record { kept = omega arith; within = omega (arith, h.some, h.between.within); before = h.between.before; reached = λ z. q };
  }
