-- What `character_of` is, by how many octets are left and by the first. Assumes nothing.
use mathlib.Core.Path.{◌≡◌, refl, ◌∙◌}
use mathlib.Core.Bool.{Bool, true, false, cond, ◌&&◌, and-false}
use Prim.Native.Nat.{ℕ, ◌≤◌, ◌<◌}
use native.Mathlib.Omega.{arith}
use lib.Dec.{leb}
use borrow.Author.Tests.{le-leb, lt-leb}
use Rattle.std.specs.Prelude.{None}
use Rattle.utf8.specs.Octets.{whole, is_one_lem, is_two, is_three, is_four, two_number, three_number, four_number, character_of}
use Rattle.utf8.proofs.Judged.{is_false, one-high, is_one, two_is, three-is, four_is}

one-not : (x : ℕ) → 0x80 ≤ x → is_one_lem x ≡ false
one-not x h = is_false (is_one_lem x) (λ t. let q = one-high x t in omega arith)

two_not : (x y : ℕ) → 0xE0 ≤ x → is_two x y ≡ false
two_not x y h = is_false (is_two x y) (λ t. let q = two_is x y t in omega arith)

three-not_below : (x y z : ℕ) → x < 0xE0 → is_three x y z ≡ false
three-not_below x y z h = is_false (is_three x y z) (λ t. let q = three-is x y z t in omega arith)

three-not_above : (x y z : ℕ) → 0xF0 ≤ x → is_three x y z ≡ false
three-not_above x y z h = is_false (is_three x y z) (λ t. let q = three-is x y z t in omega arith)

four_not : (x y z w : ℕ) → x < 0xF0 → is_four x y z w ≡ false
four_not x y z w h = is_false (is_four x y z w) (λ t. let q = four_is x y z w t in omega arith)

no_room : (n left : ℕ) (t : Bool) → left < n → leb n left && t ≡ false
no_room n left t h = rw (lt-leb n left h) refl

has_room : (n left : ℕ) (t : Bool) → n ≤ left → leb n left && t ≡ t
has_room n left t h = rw (le-leb n left h) refl

passed : (u t : Bool) → t ≡ false → u && t ≡ false
passed u t h = rw h (and-false u)

module _ (left x y z w : ℕ) where
  chosen : (a b c d : Bool) → leb 1 left && is_one_lem x ≡ a → leb 2 left && is_two x y ≡ b → leb 3 left && is_three x y z ≡ c → leb 4 left && is_four x y z w ≡ d
      → cond a (whole x 1) (cond b (whole (two_number x y) 2) (cond c (whole (three_number x y z) 3) (cond d (whole (four_number x y z w) 4) None))) ≡ character_of left x y z w
  unfolding character_of
  chosen a b c d ea eb ec ed = rw (ea, eb, ec, ed) refl

  pub none_left : left < 1 → None ≡ character_of left x y z w
  none_left h = chosen false false false false (no_room 1 left _ h) (no_room 2 left _ (omega arith)) (no_room 3 left _ (omega arith)) (no_room 4 left _ (omega arith))

  pub one : 1 ≤ left → x < 0x80 → whole x 1 ≡ character_of left x y z w
  one h k = chosen true _ _ _ (has_room 1 left (is_one_lem x) h ∙ is_one x (omega arith)) refl refl refl

  pub cut-two : left < 2 → 0x80 ≤ x → None ≡ character_of left x y z w
  cut-two h k = chosen false false false false (passed (leb 1 left) _ (one-not x k)) (no_room 2 left _ h) (no_room 3 left _ (omega arith)) (no_room 4 left _ (omega arith))

  pub two : 2 ≤ left → 0x80 ≤ x → x < 0xE0 → cond (is_two x y) (whole (two_number x y) 2) None ≡ character_of left x y z w
  two h k l =
      chosen false (is_two x y) false false (passed (leb 1 left) _ (one-not x k)) (has_room 2 left _ h) (passed (leb 3 left) _ (three-not_below x y z l)) (passed (leb 4 left) _ (four_not x y z w (omega arith)))

  pub cut-three : left < 3 → 0xE0 ≤ x → None ≡ character_of left x y z w
  cut-three h k = chosen false false false false (passed (leb 1 left) _ (one-not x (omega arith))) (passed (leb 2 left) _ (two_not x y k)) (no_room 3 left _ h) (no_room 4 left _ (omega arith))

  pub three : 3 ≤ left → 0xE0 ≤ x → x < 0xF0 → cond (is_three x y z) (whole (three_number x y z) 3) None ≡ character_of left x y z w
  three h k l =
      chosen false false (is_three x y z) false (passed (leb 1 left) _ (one-not x (omega arith))) (passed (leb 2 left) _ (two_not x y k)) (has_room 3 left _ h) (passed (leb 4 left) _ (four_not x y z w l))

  pub cut-four : left < 4 → 0xF0 ≤ x → None ≡ character_of left x y z w
  cut-four h k = chosen false false false false (passed (leb 1 left) _ (one-not x (omega arith))) (passed (leb 2 left) _ (two_not x y (omega arith))) (passed (leb 3 left) _ (three-not_above x y z k)) (no_room 4 left _ h)

  pub four : 4 ≤ left → 0xF0 ≤ x → cond (is_four x y z w) (whole (four_number x y z w) 4) None ≡ character_of left x y z w
  four h k =
      chosen false false false (is_four x y z w) (passed (leb 1 left) _ (one-not x (omega arith))) (passed (leb 2 left) _ (two_not x y (omega arith))) (passed (leb 3 left) _ (three-not_above x y z k)) (has_room 4 left _ h)
