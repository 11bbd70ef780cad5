-- What the code of `decode` finds, case by case as it meets it. Assumes nothing.
use mathlib.Core.Path.{◌≡◌, refl, sym, ◌∙◌}
use mathlib.Core.Bool.{Bool, true, false, cond, true≢false}
use Prim.Native.Nat.{ℕ, ◌≤◌}
use Rattle.utf8.specs.declared.Character.{Character}
use Rattle.std.specs.Prelude.{Option, None}
use Rattle.utf8.specs.Octets.{whole, is_tail, is_two, is_three, is_four, two_number, three_number, four_number}
use Rattle.utf8.proofs.Judged.{is_false, within-true, within-is, Two, Three, Four, two_is, is-two, three-is, is-three, four_is, is-four}

-- a tail that was found, or not
pub tail-found : (y : ℕ) → true ≡ is_tail y → (0x80 ≤ y) × (y ≤ 0xBF)
tail-found y e = within-true 0x80 0xBF y (sym e)

pub tail-missed : (y : ℕ) → false ≡ is_tail y → 0x80 ≤ y → y ≤ 0xBF → ⊥
tail-missed y e l k = true≢false (sym (within-is 0x80 0xBF y l k) ∙ sym e)

pub not_so : (t : Bool) (p : Option Character) → (t ≡ true → ⊥) → None ≡ cond t p None
not_so t p h = rw (is_false t h) refl

pub is-so : (t : Bool) (p : Option Character) → t ≡ true → p ≡ cond t p None
is-so t p h = rw h refl

module _ (x y : ℕ) where
  pub not-two : (Two x y → ⊥) → None ≡ cond (is_two x y) (whole (two_number x y) 2) None
  not-two h = not_so (is_two x y) _ (λ t. h (two_is x y t))

  pub so_two : Two x y → whole (two_number x y) 2 ≡ cond (is_two x y) (whole (two_number x y) 2) None
  so_two t = is-so (is_two x y) _ (is-two x y t)

module _ (x y z : ℕ) where
  pub not_three : (Three x y z → ⊥) → None ≡ cond (is_three x y z) (whole (three_number x y z) 3) None
  not_three h = not_so (is_three x y z) _ (λ t. h (three-is x y z t))

  pub so_three : Three x y z → whole (three_number x y z) 3 ≡ cond (is_three x y z) (whole (three_number x y z) 3) None
  so_three t = is-so (is_three x y z) _ (is-three x y z t)

module _ (x y z w : ℕ) where
  pub not-four : (Four x y z w → ⊥) → None ≡ cond (is_four x y z w) (whole (four_number x y z w) 4) None
  not-four h = not_so (is_four x y z w) _ (λ t. h (four_is x y z w t))

  pub so_four : Four x y z w → whole (four_number x y z w) 4 ≡ cond (is_four x y z w) (whole (four_number x y z w) 4) None
  so_four t = is-so (is_four x y z w) _ (is-four x y z w t)
