-- Laws of bitwise and and or, by halving: what holds of the halves holds of the numbers. Assumes nothing.
use mathlib.Core.Path.{◌≡◌, refl, sym, ap, ◌∙◌}
use Prim.Native.Nat.{ℕ, zero, suc, ◌+◌, ◌/◌, ◌%◌, ◌^◌, ◌≤◌, ◌<◌, min, max}
use native.Mathlib.Nat.{div-div-eq-div-mul, pow-succ', div-one}
use native.Mathlib.Omega.{arith}
use lib.Bits.{bit_and, bit_or, and_step, or_step, and_shr, or_shr}
use Rattle.ground.specs.Bits.{bit_of, Subset}

-- two operations on three numbers agree if they agree at 0 and, wherever they agree at the halves, at the numbers
module _ (F G : ℕ → ℕ → ℕ → ℕ) (at_zero : F 0 0 0 ≡ G 0 0 0)
    (at-double : (a b c : ℕ) → F (a / 2) (b / 2) (c / 2) ≡ G (a / 2) (b / 2) (c / 2) → F a b c ≡ G a b c) where
  agree-to : (n a b c : ℕ) → a ≤ n → b ≤ n → c ≤ n → F a b c ≡ G a b c
  agree-to zero a b c p q r =
      let ea : a ≡ zero = omega arith in
      let eb : b ≡ zero = omega arith in
      let ec : c ≡ zero = omega arith in
      rw (ea, eb, ec) at_zero
  agree-to (suc n) a b c p q r = at-double a b c (agree-to n (a / 2) (b / 2) (c / 2) (omega arith) (omega arith) (omega arith))

  pub agree : (a b c : ℕ) → F a b c ≡ G a b c
  agree a b c = agree-to (a + b + c) a b c (omega arith) (omega arith) (omega arith)

-- the halves and the last bit of an And and of an Or
pub and-half : (a b : ℕ) → bit_and a b / 2 ≡ bit_and (a / 2) (b / 2)
and-half a b = omega (arith, and_step a b)

pub and_last : (a b : ℕ) → bit_and a b % 2 ≡ min (a % 2) (b % 2)
and_last a b = omega (arith, and_step a b)

pub or_half : (a b : ℕ) → bit_or a b / 2 ≡ bit_or (a / 2) (b / 2)
or_half a b = omega (arith, or_step a b)

pub or_last : (a b : ℕ) → bit_or a b % 2 ≡ max (a % 2) (b % 2)
or_last a b = omega (arith, or_step a b)

pub and_assoc : (a b c : ℕ) → bit_and (bit_and a b) c ≡ bit_and a (bit_and b c)
and_assoc = agree (λ a b c. bit_and (bit_and a b) c) (λ a b c. bit_and a (bit_and b c)) refl
    (λ a b c ih.
    and_step (bit_and a b) c
    ∙ rw (and-half a b, and_last a b, ih) (rw (and_step a (bit_and b c), and-half b c, and_last b c) (omega arith)))

pub or_assoc : (a b c : ℕ) → bit_or (bit_or a b) c ≡ bit_or a (bit_or b c)
or_assoc = agree (λ a b c. bit_or (bit_or a b) c) (λ a b c. bit_or a (bit_or b c)) refl
    (λ a b c ih.
    or_step (bit_or a b) c
    ∙ rw (or_half a b, or_last a b, ih) (rw (or_step a (bit_or b c), or_half b c, or_last b c) (omega arith)))

pub and-over_or : (a b c : ℕ) → bit_and a (bit_or b c) ≡ bit_or (bit_and a b) (bit_and a c)
and-over_or = agree (λ a b c. bit_and a (bit_or b c)) (λ a b c. bit_or (bit_and a b) (bit_and a c)) refl
    (λ a b c ih.
    and_step a (bit_or b c)
    ∙ rw (or_half b c, or_last b c, ih)
    (rw (or_step (bit_and a b) (bit_and a c), and-half a b, and_last a b, and-half a c, and_last a c) (omega arith)))

-- "bits in both", "bits in either"
pub and-bit : (k a b : ℕ) → bit_of k (bit_and a b) ≡ min (bit_of k a) (bit_of k b)
and-bit k a b = rw (and_shr a b k) (and_last (a / 2 ^ k) (b / 2 ^ k))

pub or_bit : (k a b : ℕ) → bit_of k (bit_or a b) ≡ max (bit_of k a) (bit_of k b)
or_bit k a b = rw (or_shr a b k) (or_last (a / 2 ^ k) (b / 2 ^ k))

pub bit_half : (k a : ℕ) → bit_of k (a / 2) ≡ bit_of (suc k) a
bit_half k a = rw (div-div-eq-div-mul a 2 (2 ^ k), ← pow-succ' 2 k) refl

pub bit_last : (a : ℕ) → bit_of 0 a ≡ a % 2
bit_last a = rw (div-one a) refl

subset_half : (a b : ℕ) → Subset a b → Subset (a / 2) (b / 2)
subset_half a b s k h = bit_half k b ∙ s (suc k) (sym (bit_half k a) ∙ h)

one-bit_below : (x y : ℕ) → x < 2 → (x ≡ 1 → y ≡ 1) → x ≤ y
one-bit_below zero y h i = omega arith
one-bit_below (suc zero) y h i = omega (arith, i refl)
one-bit_below (suc (suc x)) y h i = absurd (omega arith)

subset_last : (a b : ℕ) → Subset a b → a % 2 ≤ b % 2
subset_last a b s = one-bit_below (a % 2) (b % 2) (omega arith) (λ e. sym (bit_last b) ∙ s 0 (bit_last a ∙ e))

subset_or_to : (n a b : ℕ) → a ≤ n → b ≤ n → Subset a b → bit_or a b ≡ b
subset_or_to zero a b p q s =
    let ea : a ≡ zero = omega arith in
    let eb : b ≡ zero = omega arith in
    rw (ea, eb) refl
subset_or_to (suc n) a b p q s =
    let ih : bit_or (a / 2) (b / 2) ≡ b / 2 = subset_or_to n (a / 2) (b / 2) (omega arith) (omega arith) (subset_half a b s) in
    or_step a b ∙ rw ih (omega (arith, subset_last a b s))

-- joining a subset changes nothing, and nothing else does
pub subset_or : (a b : ℕ) → Subset a b → bit_or a b ≡ b
subset_or a b s = subset_or_to (a + b) a b (omega arith) (omega arith) s

pub or_subset : (a b : ℕ) → bit_or a b ≡ b → Subset a b
or_subset a b e k h =
    let m : bit_of k b ≡ max (bit_of k a) (bit_of k b) = ap (bit_of k) (sym e) ∙ or_bit k a b in
    omega arith
