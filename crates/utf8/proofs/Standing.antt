-- What `character_at` is, case by case as the code meets it. Assumes nothing.
use mathlib.Core.Path.{◌≡◌, sym, ap, ◌∙◌}
use mathlib.Core.Bool.{cond}
use mathlib.Core.List.{List}
use Prim.Native.Nat.{ℕ, ◌+◌, ◌-◌, ◌≤◌, ◌<◌}
use native.Mathlib.Nat.{add-zero}
use native.Mathlib.Omega.{arith}
use lib.ListN.{length, get_or, take}
use lib.Seq.{slice, length-slice, get_or-drop, get_or-take}
use Rattle.utf8.specs.declared.Character.{Character}
use Rattle.std.specs.Prelude.{Option, None}
use Rattle.utf8.specs.Octets.{whole, is_two, is_three, is_four, two_number, three_number, four_number, character_in, character_at}
use Rattle.utf8.proofs.Cases as cases

module _ (b : List ℕ) (at end : ℕ) (within : end ≤ length b) where
  left_is : length (slice at end b) ≡ end - at
  left_is = length-slice at end b within

  octet : (i : ℕ) → at + i < end → get_or (slice at end b) i 0 ≡ get_or b (at + i) 0
  octet i h = get_or-drop at (take end b) i 0 ∙ get_or-take end b (at + i) 0 h

  first-octet : at < end → get_or (slice at end b) 0 0 ≡ get_or b at 0
  first-octet h = octet 0 (omega arith) ∙ ap (λ (k : ℕ). get_or b k 0) (add-zero at)

  pub at_end : end ≤ at → None ≡ character_at b at end
  unfolding character_in
  at_end h = cases.none_left (length (slice at end b)) _ _ _ _ (omega (arith, left_is))

  module _ (some : at < end) (x : ℕ) (first : x ≡ get_or b at 0) where
    same : x ≡ get_or (slice at end b) 0 0
    same = first ∙ sym (first-octet some)

    pub at_one : x < 0x80 → whole x 1 ≡ character_at b at end
    unfolding character_in
    at_one h = ap (λ (v : ℕ). whole v 1) same ∙ cases.one (length (slice at end b)) (get_or (slice at end b) 0 0) _ _ _ (omega (arith, left_is)) (omega (arith, same))

    pub at_cut_two : 0x80 ≤ x → end - at < 2 → None ≡ character_at b at end
    unfolding character_in
    at_cut_two h l = cases.cut-two (length (slice at end b)) (get_or (slice at end b) 0 0) _ _ _ (omega (arith, left_is)) (omega (arith, same))

    pub at_cut_three : 0xE0 ≤ x → end - at < 3 → None ≡ character_at b at end
    unfolding character_in
    at_cut_three h l = cases.cut-three (length (slice at end b)) (get_or (slice at end b) 0 0) _ _ _ (omega (arith, left_is)) (omega (arith, same))

    pub at_cut_four : 0xF0 ≤ x → end - at < 4 → None ≡ character_at b at end
    unfolding character_in
    at_cut_four h l = cases.cut-four (length (slice at end b)) (get_or (slice at end b) 0 0) _ _ _ (omega (arith, left_is)) (omega (arith, same))

    module _ (r : Option Character) (y : ℕ) (second : y ≡ get_or b (at + 1) 0) where
      pub at_two : r ≡ cond (is_two x y) (whole (two_number x y) 2) None → 0x80 ≤ x → x < 0xE0 → 2 ≤ end - at → r ≡ character_at b at end
      unfolding character_in
      at_two e h k l =
          let same2 : y ≡ get_or (slice at end b) 1 0 = second ∙ sym (octet 1 (omega arith)) in
          e ∙ sym (rw (← same, ← same2) (sym (cases.two (length (slice at end b)) x y (get_or (slice at end b) 2 0) (get_or (slice at end b) 3 0) (omega (arith, left_is)) h k)))

      module _ (z : ℕ) (third : z ≡ get_or b (at + 2) 0) where
        pub at_three : r ≡ cond (is_three x y z) (whole (three_number x y z) 3) None → 0xE0 ≤ x → x < 0xF0 → 3 ≤ end - at → r ≡ character_at b at end
        unfolding character_in
        at_three e h k l =
            let same2 : y ≡ get_or (slice at end b) 1 0 = second ∙ sym (octet 1 (omega arith)) in
            let same3 : z ≡ get_or (slice at end b) 2 0 = third ∙ sym (octet 2 (omega arith)) in
            e ∙ sym (rw (← same, ← same2, ← same3) (sym (cases.three (length (slice at end b)) x y z (get_or (slice at end b) 3 0) (omega (arith, left_is)) h k)))

        module _ (w : ℕ) (fourth : w ≡ get_or b (at + 3) 0) where
          pub at_four : r ≡ cond (is_four x y z w) (whole (four_number x y z w) 4) None → 0xF0 ≤ x → 4 ≤ end - at → r ≡ character_at b at end
          unfolding character_in
          at_four e h l =
              let same2 : y ≡ get_or (slice at end b) 1 0 = second ∙ sym (octet 1 (omega arith)) in
              let same3 : z ≡ get_or (slice at end b) 2 0 = third ∙ sym (octet 2 (omega arith)) in
              let same4 : w ≡ get_or (slice at end b) 3 0 = fourth ∙ sym (octet 3 (omega arith)) in
              e ∙ sym (rw (← same, ← same2, ← same3, ← same4) (sym (cases.four (length (slice at end b)) x y z w (omega (arith, left_is)) h)))
