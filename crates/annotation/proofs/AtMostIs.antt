-- "At most" is "subset" for kinds 1 and 5, and "<=" for kinds 3 and 4. Assumes nothing.
use mathlib.Core.Logic.{◌↔◌}
use Prim.Native.Nat.{ℕ, ◌≤◌}
use native.Mathlib.Omega.{arith}
use Rattle.ground.specs.Bits.{Subset}
use Rattle.ground.proofs.Bitwise.{subset_or, or_subset}
use Rattle.annotation.specs.Algebra.{AtMost}
use Rattle.annotation.specs.Kinds.{algebra}

pub years-at_most : (a b : ℕ) → AtMost (algebra 1) a b ↔ Subset a b
unfolding algebra
years-at_most a b = (or_subset a b, subset_or a b)

pub sheets-at_most : (a b : ℕ) → AtMost (algebra 5) a b ↔ Subset a b
unfolding algebra
sheets-at_most a b = (or_subset a b, subset_or a b)

pub degree-at_most : (a b : ℕ) → AtMost (algebra 3) a b ↔ (a ≤ b)
unfolding algebra
degree-at_most a b = (λ h. omega arith, λ h. omega arith)

pub strict-at_most : (a b : ℕ) → AtMost (algebra 4) a b ↔ (a ≤ b)
unfolding algebra
strict-at_most a b = (λ h. omega arith, λ h. omega arith)
