-- Which line of the table a kind has. Assumes nothing.
use mathlib.Core.Path.{◌≡◌, refl}
use mathlib.Core.Bool.{Bool, true, false, cond}
use Prim.Native.Nat.{ℕ, max}
use lib.Dec.{eqb}
use borrow.Author.Tests.{eq-eqb, ne_eqb}
use Rattle.annotation.specs.Kinds.{years, sheets, degree, strict, algebra}

module _ (kind : ℕ) where
  pub is-years : kind ≡ 1 → algebra kind ≡ years
  unfolding algebra
  is-years h = rw (eq-eqb kind 1 h) refl

  module _ (n1 : kind ≡ 1 → ⊥) where
    pub is-sheets : kind ≡ 5 → algebra kind ≡ sheets
    unfolding algebra
    is-sheets h = rw (ne_eqb kind 1 n1, eq-eqb kind 5 h) refl

    module _ (n5 : kind ≡ 5 → ⊥) where
      pub is-scale : algebra kind ≡ cond (eqb kind 3) degree strict
      unfolding algebra
      is-scale = rw (ne_eqb kind 1 n1, ne_eqb kind 5 n5) refl

      pub is-degree : kind ≡ 3 → algebra kind ≡ degree
      is-degree h = rw (is-scale, eq-eqb kind 3 h) refl

      pub is-strict : (kind ≡ 3 → ⊥) → algebra kind ≡ strict
      is-strict n3 = rw (is-scale, ne_eqb kind 3 n3) refl

scale_join : (d : Bool) (a b : ℕ) → max a b ≡ (cond d degree strict).join a b
scale_join true a b = refl
scale_join false a b = refl

module _ (kind : ℕ) (n1 : kind ≡ 1 → ⊥) (n5 : kind ≡ 5 → ⊥) where
  pub joins-by_max : (a b : ℕ) → max a b ≡ (algebra kind).join a b
  joins-by_max a b = rw (is-scale kind n1 n5) (scale_join (eqb kind 3) a b)
