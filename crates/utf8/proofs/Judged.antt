-- The grammar's tests as facts on numbers, both ways. Assumes nothing.
use mathlib.Core.Path.{◌≡◌, refl, sym, ◌∙◌}
use mathlib.Core.Logic.{◌⊎◌, inl, inr, ⊎_elim}
use mathlib.Core.Bool.{Bool, true, false, ◌&&◌, ◌||◌, false≢true, or-true}
use Prim.Native.Nat.{ℕ, ◌≤◌}
use native.Mathlib.Omega.{arith}
use lib.Dec.{leb}
use borrow.Author.Tests.{leb-true, leb-false, le-leb}
use Rattle.utf8.specs.Characters.{within, is_character_lem}
use Rattle.utf8.specs.Octets.{is_tail, is_one_lem, is_two, is_three, is_four, three_number, four_number}

pub and_left : (a b : Bool) → a && b ≡ true → a ≡ true
and_left true b h = refl
and_left false b h = h

pub and_right : (a b : Bool) → a && b ≡ true → b ≡ true
and_right true b h = h
and_right false b h = absurd (false≢true h)

or_cases : (a b : Bool) → a || b ≡ true → (a ≡ true) ⊎ (b ≡ true)
or_cases true b h = inl refl
or_cases false b h = inr h

or_left : (a b : Bool) → a ≡ true → a || b ≡ true
or_left a b h = rw h refl

or_right : (a b : Bool) → b ≡ true → a || b ≡ true
or_right a b h = rw h (or-true a)

and_both : (a b : Bool) → a ≡ true → b ≡ true → a && b ≡ true
and_both a b h k = rw (h, k) refl

pub is_false : (t : Bool) → (t ≡ true → ⊥) → t ≡ false
is_false true h = absurd (h refl)
is_false false h = refl

pub within-true : (low high x : ℕ) → within low high x ≡ true → (low ≤ x) × (x ≤ high)
within-true low high x h = (leb-true low x (and_left (leb low x) (leb x high) h), leb-true x high (and_right (leb low x) (leb x high) h))

pub within-is : (low high x : ℕ) → low ≤ x → x ≤ high → within low high x ≡ true
within-is low high x h k = and_both (leb low x) (leb x high) (le-leb low x h) (le-leb x high k)

-- which numbers are characters
pub low-character : (c : ℕ) → c ≤ 0xD7FF → is_character_lem c ≡ true
unfolding is_character_lem
low-character c h = or_left _ _ (within-is 0 0xD7FF c (omega arith) h)

pub high_character : (c : ℕ) → 0xE000 ≤ c → c ≤ 0x10FFFF → is_character_lem c ≡ true
unfolding is_character_lem
high_character c h k = or_right (within 0 0xD7FF c) _ (within-is 0xE000 0x10FFFF c h k)

pub no_surrogate : (c : ℕ) → c ≤ 0xFFFF → within 0xD800 0xDFFF c ≡ false → is_character_lem c ≡ true
no_surrogate c h e = by (leb c 0xD7FF) (leb 0xE000 c) refl refl
  where
    by : (p q : Bool) → leb c 0xD7FF ≡ p → leb 0xE000 c ≡ q → is_character_lem c ≡ true
    by true q ep eq = low-character c (leb-true c 0xD7FF ep)
    by false true ep eq = high_character c (leb-true 0xE000 c eq) (omega arith)
    by false false ep eq =
        absurd (false≢true (sym e ∙ within-is 0xD800 0xDFFF c (omega (arith, leb-false c 0xD7FF ep)) (omega (arith, leb-false 0xE000 c eq))))

pub character_is : (c : ℕ) → is_character_lem c ≡ true → (c ≤ 0xD7FF) ⊎ ((0xE000 ≤ c) × (c ≤ 0x10FFFF))
unfolding is_character_lem
character_is c h =
    ⊎_elim (λ l. inl (within-true 0 0xD7FF c l).1) (λ r. inr (within-true 0xE000 0x10FFFF c r)) (or_cases (within 0 0xD7FF c) (within 0xE000 0x10FFFF c) h)

-- two, three, four octets in their ranges
pair_is : (a b c d x y : ℕ) → within a b x && within c d y ≡ true → (a ≤ x) × (x ≤ b) × (c ≤ y) × (y ≤ d)
pair_is a b c d x y h =
    let p = within-true a b x (and_left (within a b x) (within c d y) h) in
    let q = within-true c d y (and_right (within a b x) (within c d y) h) in
    (p.0, p.1, q.0, q.1)

record Ranges3 (a b c d x y z : ℕ) : Type 0 where
  x_low : a ≤ x
  x_high : x ≤ b
  y_low : c ≤ y
  y_high : y ≤ d
  z_low : 0x80 ≤ z
  z_high : z ≤ 0xBF

ranges3 : (a b c d x y z : ℕ) → within a b x && (within c d y && is_tail z) ≡ true → Ranges3 a b c d x y z
ranges3 a b c d x y z h =
    let p = within-true a b x (and_left (within a b x) _ h) in
    let q = pair_is c d 0x80 0xBF y z (and_right (within a b x) _ h) in
    record { x_low = p.0; x_high = p.1; y_low = q.0; y_high = q.1; z_low = q.2; z_high = q.3 }

is-ranges3 : (a b c d x y z : ℕ) → Ranges3 a b c d x y z → within a b x && (within c d y && is_tail z) ≡ true
is-ranges3 a b c d x y z r =
    and_both _ _ (within-is a b x r.x_low r.x_high) (and_both _ _ (within-is c d y r.y_low r.y_high) (within-is 0x80 0xBF z r.z_low r.z_high))

record Ranges4 (a b c d x y z w : ℕ) : Type 0 where
  front : Ranges3 a b c d x y z
  w_low : 0x80 ≤ w
  w_high : w ≤ 0xBF

ranges4 : (a b c d x y z w : ℕ) → within a b x && (within c d y && (is_tail z && is_tail w)) ≡ true → Ranges4 a b c d x y z w
ranges4 a b c d x y z w h =
    let p = within-true a b x (and_left (within a b x) _ h) in
    let k = and_right (within a b x) (within c d y && (is_tail z && is_tail w)) h in
    let q = within-true c d y (and_left (within c d y) _ k) in
    let t = pair_is 0x80 0xBF 0x80 0xBF z w (and_right (within c d y) _ k) in
    record { front = record { x_low = p.0; x_high = p.1; y_low = q.0; y_high = q.1; z_low = t.0; z_high = t.1 }; w_low = t.2; w_high = t.3 }

is-ranges4 : (a b c d x y z w : ℕ) → Ranges4 a b c d x y z w → within a b x && (within c d y && (is_tail z && is_tail w)) ≡ true
is-ranges4 a b c d x y z w r =
    let f = r.front in
    and_both _ _ (within-is a b x f.x_low f.x_high)
    (and_both _ _ (within-is c d y f.y_low f.y_high)
    (and_both _ _ (within-is 0x80 0xBF z f.z_low f.z_high) (within-is 0x80 0xBF w r.w_low r.w_high)))

-- one octet
pub one-high : (x : ℕ) → is_one_lem x ≡ true → x ≤ 0x7F
unfolding is_one_lem
one-high x h = (within-true 0 0x7F x h).1

pub is_one : (x : ℕ) → x ≤ 0x7F → is_one_lem x ≡ true
unfolding is_one_lem
is_one x h = within-is 0 0x7F x (omega arith) h

-- two octets
pub record Two (x y : ℕ) : Type 0 where
  pub x_low : 0xC2 ≤ x
  pub x_high : x ≤ 0xDF
  pub y_low : 0x80 ≤ y
  pub y_high : y ≤ 0xBF

pub two_is : (x y : ℕ) → is_two x y ≡ true → Two x y
unfolding is_two
two_is x y h =
    let p = pair_is 0xC2 0xDF 0x80 0xBF x y h in
    record { x_low = p.0; x_high = p.1; y_low = p.2; y_high = p.3 }

pub is-two : (x y : ℕ) → Two x y → is_two x y ≡ true
unfolding is_two
is-two x y t = and_both _ _ (within-is 0xC2 0xDF x t.x_low t.x_high) (within-is 0x80 0xBF y t.y_low t.y_high)

-- three: their number needs three, and is a character
pub record Three (x y z : ℕ) : Type 0 where
  pub x_low : 0xE0 ≤ x
  pub x_high : x ≤ 0xEF
  pub y_low : 0x80 ≤ y
  pub y_high : y ≤ 0xBF
  pub z_low : 0x80 ≤ z
  pub z_high : z ≤ 0xBF
  pub least : 0x800 ≤ three_number x y z
  pub character : is_character_lem (three_number x y z) ≡ true

module _ (x y z : ℕ) where
  three-low : (a b c d : ℕ) → Ranges3 a b c d x y z → 0xE0 ≤ x → x ≤ 0xEF → 0x80 ≤ y → y ≤ 0xBF → 0x800 ≤ three_number x y z → three_number x y z ≤ 0xD7FF → Three x y z
  three-low a b c d r p q s t l h =
      record { x_low = p; x_high = q; y_low = s; y_high = t; z_low = r.z_low; z_high = r.z_high; least = l; character = low-character (three_number x y z) h }

  three-1 : Ranges3 0xE0 0xE0 0xA0 0xBF x y z → Three x y z
  three-1 r = three-low 0xE0 0xE0 0xA0 0xBF r (omega arith) (omega arith) (omega arith) (omega arith) (omega arith) (omega arith)

  three-2 : Ranges3 0xE1 0xEC 0x80 0xBF x y z → Three x y z
  three-2 r = three-low 0xE1 0xEC 0x80 0xBF r (omega arith) (omega arith) (omega arith) (omega arith) (omega arith) (omega arith)

  three-3 : Ranges3 0xED 0xED 0x80 0x9F x y z → Three x y z
  three-3 r = three-low 0xED 0xED 0x80 0x9F r (omega arith) (omega arith) (omega arith) (omega arith) (omega arith) (omega arith)

  three-4 : Ranges3 0xEE 0xEF 0x80 0xBF x y z → Three x y z
  three-4 r =
      record {
        x_low = omega arith;
        x_high = omega arith;
        y_low = r.y_low;
        y_high = r.y_high;
        z_low = r.z_low;
        z_high = r.z_high;
        least = omega arith;
        character = high_character (three_number x y z) (omega arith) (omega arith);
      }

  pub three-is : is_three x y z ≡ true → Three x y z
  unfolding is_three
  three-is h =
      ⊎_elim (λ u. three-1 (ranges3 0xE0 0xE0 0xA0 0xBF x y z u))
      (λ k. ⊎_elim (λ u. three-2 (ranges3 0xE1 0xEC 0x80 0xBF x y z u))
      (λ m. ⊎_elim (λ u. three-3 (ranges3 0xED 0xED 0x80 0x9F x y z u)) (λ u. three-4 (ranges3 0xEE 0xEF 0x80 0xBF x y z u)) (or_cases _ _ m))
      (or_cases _ _ k))
      (or_cases _ _ h)

  module _ (t : Three x y z) where
    abbrev alt_1 : Bool
    alt_1 = within 0xE0 0xE0 x && (within 0xA0 0xBF y && is_tail z)

    abbrev alt_2 : Bool
    alt_2 = within 0xE1 0xEC x && (is_tail y && is_tail z)

    abbrev alt_3 : Bool
    alt_3 = within 0xED 0xED x && (within 0x80 0x9F y && is_tail z)

    surrogate_not : x ≡ 0xED → y ≤ 0x9F
    surrogate_not e = ⊎_elim (λ l. omega arith) (λ h. omega arith) (character_is (three_number x y z) t.character)

    by_first : (p q s : Bool) → leb x 0xE0 ≡ p → leb x 0xEC ≡ q → leb x 0xED ≡ s → is_three x y z ≡ true
    unfolding is_three
    by_first true q s ep eq es =
        let h = leb-true x 0xE0 ep in
        or_left _ _ (is-ranges3 0xE0 0xE0 0xA0 0xBF x y z
        (record { x_low = t.x_low; x_high = h; y_low = omega arith; y_high = t.y_high; z_low = t.z_low; z_high = t.z_high }))
    by_first false true s ep eq es =
        let l = leb-false x 0xE0 ep in
        let h = leb-true x 0xEC eq in
        or_right alt_1 _ (or_left _ _ (is-ranges3 0xE1 0xEC 0x80 0xBF x y z
        (record { x_low = omega arith; x_high = h; y_low = t.y_low; y_high = t.y_high; z_low = t.z_low; z_high = t.z_high })))
    by_first false false true ep eq es =
        let l = leb-false x 0xEC eq in
        let h = leb-true x 0xED es in
        or_right alt_1 _ (or_right alt_2 _ (or_left _ _ (is-ranges3 0xED 0xED 0x80 0x9F x y z
        (record { x_low = omega arith; x_high = h; y_low = t.y_low; y_high = surrogate_not (omega arith); z_low = t.z_low; z_high = t.z_high }))))
    by_first false false false ep eq es =
        let l = leb-false x 0xED es in
        or_right alt_1 _ (or_right alt_2 _ (or_right alt_3 _ (is-ranges3 0xEE 0xEF 0x80 0xBF x y z
        (record { x_low = omega arith; x_high = t.x_high; y_low = t.y_low; y_high = t.y_high; z_low = t.z_low; z_high = t.z_high }))))

  pub is-three : Three x y z → is_three x y z ≡ true
  is-three t = by_first t (leb x 0xE0) (leb x 0xEC) (leb x 0xED) refl refl refl

-- four: their number needs four, and is not above 10FFFF
pub record Four (x y z w : ℕ) : Type 0 where
  pub x_low : 0xF0 ≤ x
  pub x_high : x ≤ 0xF4
  pub y_low : 0x80 ≤ y
  pub y_high : y ≤ 0xBF
  pub z_low : 0x80 ≤ z
  pub z_high : z ≤ 0xBF
  pub w_low : 0x80 ≤ w
  pub w_high : w ≤ 0xBF
  pub least : 0x10000 ≤ four_number x y z w
  pub most : four_number x y z w ≤ 0x10FFFF

module _ (x y z w : ℕ) where
  four_1 : Ranges4 0xF0 0xF0 0x90 0xBF x y z w → Four x y z w
  four_1 r = let f = r.front in omega arith

  four_2 : Ranges4 0xF1 0xF3 0x80 0xBF x y z w → Four x y z w
  four_2 r = let f = r.front in omega arith

  four_3 : Ranges4 0xF4 0xF4 0x80 0x8F x y z w → Four x y z w
  four_3 r = let f = r.front in omega arith

  pub four_is : is_four x y z w ≡ true → Four x y z w
  unfolding is_four
  four_is h =
      ⊎_elim (λ u. four_1 (ranges4 0xF0 0xF0 0x90 0xBF x y z w u))
      (λ k. ⊎_elim (λ u. four_2 (ranges4 0xF1 0xF3 0x80 0xBF x y z w u)) (λ u. four_3 (ranges4 0xF4 0xF4 0x80 0x8F x y z w u)) (or_cases _ _ k))
      (or_cases _ _ h)

  module _ (t : Four x y z w) where
    abbrev alt_f0 : Bool
    alt_f0 = within 0xF0 0xF0 x && (within 0x90 0xBF y && (is_tail z && is_tail w))

    abbrev alt_f1 : Bool
    alt_f1 = within 0xF1 0xF3 x && (is_tail y && (is_tail z && is_tail w))

    at_four : (a b c d : ℕ) → a ≤ x → x ≤ b → c ≤ y → y ≤ d → Ranges4 a b c d x y z w
    at_four a b c d p q r s =
        record { front = record { x_low = p; x_high = q; y_low = r; y_high = s; z_low = t.z_low; z_high = t.z_high }; w_low = t.w_low; w_high = t.w_high }

    by_first_of_four : (p q : Bool) → leb x 0xF0 ≡ p → leb x 0xF3 ≡ q → is_four x y z w ≡ true
    unfolding is_four
    by_first_of_four true q ep eq =
        let h = leb-true x 0xF0 ep in
        or_left _ _ (is-ranges4 0xF0 0xF0 0x90 0xBF x y z w (at_four 0xF0 0xF0 0x90 0xBF t.x_low h (omega arith) t.y_high))
    by_first_of_four false true ep eq =
        let l = leb-false x 0xF0 ep in
        let h = leb-true x 0xF3 eq in
        or_right alt_f0 _ (or_left _ _ (is-ranges4 0xF1 0xF3 0x80 0xBF x y z w (at_four 0xF1 0xF3 0x80 0xBF (omega arith) h t.y_low t.y_high)))
    by_first_of_four false false ep eq =
        let l = leb-false x 0xF3 eq in
        or_right alt_f0 _ (or_right alt_f1 _ (is-ranges4 0xF4 0xF4 0x80 0x8F x y z w (at_four 0xF4 0xF4 0x80 0x8F (omega arith) t.x_high t.y_low (omega arith))))

  pub is-four : Four x y z w → is_four x y z w ≡ true
  is-four t = by_first_of_four t (leb x 0xF0) (leb x 0xF3) refl refl
