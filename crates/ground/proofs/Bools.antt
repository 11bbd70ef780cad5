-- Laws of tests that the kit has not. Assumes nothing.
use mathlib.Core.Path.{◌≡◌, refl, sym, ap, ◌∙◌}
use mathlib.Core.Bool.{Bool, true, false, ◌&&◌, ◌||◌, true≢false, and_assoc, and_comm}
use Prim.Native.Nat.{ℕ}
use lib.Dec.{eqb}
use borrow.Author.Tests.{eqb-true, eqb-false}

pub not-both : {u : Bool} → u ≡ true → u ≡ false → ⊥
not-both h k = true≢false (sym h ∙ k)

pub neither : (u w : Bool) → u || w ≡ false → (u ≡ false) × (w ≡ false)
neither true w h = absurd (true≢false h)
neither false w h = (refl, h)

-- tests that imply each other are one
pub same_test : (u w : Bool) → (u ≡ true → w ≡ true) → (w ≡ true → u ≡ true) → u ≡ w
same_test true w h k = sym (h refl)
same_test false true h k = k refl
same_test false false h k = refl

-- of three tests the last two change places
pub and-swap : (t u w : Bool) → (t && w) && u ≡ (t && u) && w
and-swap t u w = and_assoc t w u ∙ ap (λ (v : Bool). t && v) (and_comm w u) ∙ sym (and_assoc t u w)

-- two pairs of tests, taken across
pub and-across : (t u v w : Bool) → (t && u) && (v && w) ≡ (t && v) && (u && w)
and-across t u v w = sym (and_assoc (t && u) v w) ∙ ap (λ (x : Bool). x && w) (and-swap t v u) ∙ and_assoc (t && v) u w

-- two numbers are equal or not
pub equal-or : (m n : ℕ) {P : Type 0} → (m ≡ n → P) → ((m ≡ n → ⊥) → P) → P
equal-or m n {P} same other = go (eqb m n) refl
  where
    go : (u : Bool) → eqb m n ≡ u → P
    go true e = same (eqb-true m n e)
    go false e = other (eqb-false m n e)
