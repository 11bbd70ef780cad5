-- A legal annotation is a value of its kind other than bottom. Assumes nothing.
use mathlib.Core.Path.{◌≡◌, refl}
use mathlib.Core.Bool.{Bool, true, false, not, cond, ◌&&◌, ◌||◌, and-eq-true_iff}
use Prim.Native.Nat.{ℕ, ◌≤◌, ◌<◌}
use native.Mathlib.Omega.{arith}
use lib.Dec.{eqb, leb}
use borrow.Author.Tests.{eqb-true, eqb-false, leb-true, not-true, not-false, ne_eqb, le-leb}
use Rattle.annotation.specs.Combinations.{is_larger}
use Rattle.annotation.specs.Kinds.{years, sheets, degree, strict, algebra, is64_bit, is_in_range, misses_larger, is_legal}
use Rattle.annotation.proofs.Combinations.{larger_holds, holds-larger}

module _ (a : ℕ) where
  in_set : not (eqb a 0) && is64_bit a ≡ true → (0 < a) × (a ≤ 18446744073709551615)
  in_set h =
      let b = (and-eq-true_iff (not (eqb a 0)) (is64_bit a)).0 h in
      let n = eqb-false a 0 (not-true (eqb a 0) b.0) in
      (omega (arith, n), leb-true a 18446744073709551615 b.1)

  set-in : 0 < a → a ≤ 18446744073709551615 → not (eqb a 0) && is64_bit a ≡ true
  set-in h v = rw (ne_eqb a 0 (λ e. omega arith), le-leb a 18446744073709551615 v) refl

  in_scale : leb 1 a && leb a 1000 ≡ true → (0 < a) × (a ≤ 1000)
  in_scale h = let b = (and-eq-true_iff (leb 1 a) (leb a 1000)).0 h in (leb-true 1 a b.0, leb-true a 1000 b.1)

  -- by which kind it is
  abbrev in_range_of : Bool → Bool → Bool
  in_range_of y s = cond (y || s) (not (eqb a 0) && is64_bit a) (leb 1 a && leb a 1000)

  abbrev misses_of : Bool → Bool
  misses_of s = s && not (is_larger a)

  abbrev ValueOf : Bool → Bool → Bool → Type 0
  ValueOf y s d = (cond y years (cond s sheets (cond d degree strict))).Value a

  legal-of : (y s d : Bool) → in_range_of y s ≡ true → misses_of s ≡ false → (0 < a) × ValueOf y s d
  legal-of true s d h m = in_set h
  legal-of false true d h m = let v = in_set h in (v.0, (v.1, larger_holds a (not-false (is_larger a) m)))
  legal-of false false true h m = in_scale h
  legal-of false false false h m = in_scale h

  value_of : (y s d : Bool) → (y ≡ true → s ≡ false) → 0 < a → ValueOf y s d → in_range_of y s && not (misses_of s) ≡ true
  value_of true s d other h v = rw (other refl, set-in h v) refl
  value_of false true d other h v = rw (set-in h v.0, holds-larger a v.1) refl
  value_of false false true other h v = rw (le-leb 1 a h, le-leb a 1000 v) refl
  value_of false false false other h v = rw (le-leb 1 a h, le-leb a 1000 v) refl

  pub legal-value : (kind : ℕ) → is_legal kind a ≡ true → (0 < a) × (algebra kind).Value a
  unfolding algebra
  legal-value kind h =
      let b = (and-eq-true_iff (is_in_range kind a) (not (misses_larger kind a))).0 h in
      legal-of (eqb kind 1) (eqb kind 5) (eqb kind 3) b.0 (not-true (misses_larger kind a) b.1)

  pub value-legal : (kind : ℕ) → 0 < a → (algebra kind).Value a → is_legal kind a ≡ true
  unfolding algebra
  value-legal kind h v =
      value_of (eqb kind 1) (eqb kind 5) (eqb kind 3) (λ e. ne_eqb kind 5 (λ f. omega (arith, eqb-true kind 1 e))) h v

-- bottom is legal in no kind
neither : (b : Bool) → cond b false false ≡ false
neither true = refl
neither false = refl

pub bottom-out_of_range : (kind : ℕ) → is_in_range kind 0 ≡ false
bottom-out_of_range kind = neither (eqb kind 1 || eqb kind 5)

pub bottom-illegal : (kind : ℕ) → is_legal kind 0 ≡ false
bottom-illegal kind = rw (bottom-out_of_range kind) refl
