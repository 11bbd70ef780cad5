-- Membership in sets that are numbers: what the bits of an Or, an And, a power of two and a shifted number are. Assumes nothing.
use mathlib.Core.Path.{◌≡◌, refl, sym, ap, ◌∙◌}
use mathlib.Core.Bool.{Bool, true, false, ◌&&◌, ◌||◌, true≢false, and-eq-true_iff}
use mathlib.Core.Logic.{◌⊎◌, inl, inr, ⊎_elim}
use Prim.Native.Nat.{ℕ, zero, suc, ◌+◌, ◌-◌, ◌*◌, ◌/◌, ◌%◌, ◌^◌, ◌≤◌, ◌<◌, min, max}
use native.Mathlib.Nat.{add-zero, one-mul, mul_assoc, mod-eq_of_lt, div-one, div-eq_of_lt, div_self}
use native.Mathlib.Omega.{arith}
use lib.Dec.{eqb, ltb}
use lib.Pow.{pow-lt, pow_pos, pow_mono, pow-add, shl-shr, shr-shr}
use lib.Bits.{bit_or, bit_and, shifted_even, or_add_and, or_zero_r}
use borrow.Author.Tests.{eqb-true, eqb-false, eq-eqb, ne_eqb, ltb-true, ltb-false}
use Rattle.ground.specs.Bits.{bit_of, has, Subset}
use Rattle.ground.proofs.Bitwise.{and-bit, or_bit, subset_or}

-- ---- one bit

bit_max : (x y : ℕ) → x < 2 → y < 2 → eqb (max x y) 1 ≡ eqb x 1 || eqb y 1
bit_max zero zero h k = refl
bit_max zero (suc zero) h k = refl
bit_max zero (suc (suc y)) h k = absurd (omega arith)
bit_max (suc zero) zero h k = refl
bit_max (suc zero) (suc zero) h k = refl
bit_max (suc zero) (suc (suc y)) h k = absurd (omega arith)
bit_max (suc (suc x)) y h k = absurd (omega arith)

bit_min : (x y : ℕ) → x < 2 → y < 2 → eqb (min x y) 1 ≡ eqb x 1 && eqb y 1
bit_min zero zero h k = refl
bit_min zero (suc zero) h k = refl
bit_min zero (suc (suc y)) h k = absurd (omega arith)
bit_min (suc zero) zero h k = refl
bit_min (suc zero) (suc zero) h k = refl
bit_min (suc zero) (suc (suc y)) h k = absurd (omega arith)
bit_min (suc (suc x)) y h k = absurd (omega arith)

module _ (a b k : ℕ) where
  -- "bits in either", "bits in both"
  pub has-or : has (bit_or a b) k ≡ has a k || has b k
  unfolding has
  has-or = ap (λ (x : ℕ). eqb x 1) (or_bit k a b) ∙ bit_max (bit_of k a) (bit_of k b) (omega arith) (omega arith)

  pub has-and : has (bit_and a b) k ≡ has a k && has b k
  unfolding has
  has-and = ap (λ (x : ℕ). eqb x 1) (and-bit k a b) ∙ bit_min (bit_of k a) (bit_of k b) (omega arith) (omega arith)

-- ---- numbers with few bits

pub has-none : (k : ℕ) → has 0 k ≡ false
unfolding has
has-none k = ap (λ (x : ℕ). eqb (x % 2) 1) (div-eq_of_lt (pow_pos k))

-- a number below 2 ^ k has no bit from k on
pub has-high : (m k i : ℕ) → m < 2 ^ k → k ≤ i → has m i ≡ false
unfolding has
has-high m k i h le =
    let c : 2 ^ k ≤ 2 ^ i = pow_mono le in
    let d : m < 2 ^ i = omega arith in
    ap (λ (x : ℕ). eqb (x % 2) 1) (div-eq_of_lt d)

-- the bits of a number times 2 ^ j are the number's, j places up
pub has-shifted : (m j k : ℕ) → has (m * 2 ^ j) (j + k) ≡ has m k
unfolding has
has-shifted m j k = ap (λ (x : ℕ). eqb (x % 2) 1) (sym (shr-shr (m * 2 ^ j) j k) ∙ ap (λ (x : ℕ). x / 2 ^ k) (shl-shr m j))

even_has_none : (m k : ℕ) → has (m * 2 ^ suc k) 0 ≡ false
unfolding has
even_has_none m k = rw (div-one (m * 2 ^ suc k), shifted_even m k) refl

pub has-below_shift : (m j i : ℕ) → i < j → has (m * 2 ^ j) i ≡ false
has-below_shift m j i h =
    let d : ℕ = j - suc i in
    let e : j ≡ suc d + i = omega arith in
    let f : m * 2 ^ j ≡ (m * 2 ^ suc d) * 2 ^ i
    = ap (λ (x : ℕ). m * 2 ^ x) e ∙ ap (λ (x : ℕ). m * x) (pow-add 2 (suc d) i) ∙ sym (mul_assoc m (2 ^ suc d) (2 ^ i)) in
    ap (λ (x : ℕ). has x i) f ∙ ap (has ((m * 2 ^ suc d) * 2 ^ i)) (sym (add-zero i)) ∙ has-shifted (m * 2 ^ suc d) i 0 ∙ even_has_none m d

has-own : (v : ℕ) → has (2 ^ v) v ≡ true
unfolding has
has-own v = ap (λ (x : ℕ). eqb (x % 2) 1) (div_self (pow_pos v))

-- 2 ^ v has the bit v and no other
pub has-power : (v k : ℕ) → has (2 ^ v) k ≡ eqb v k
has-power v k = which (ltb v k) (ltb k v) refl refl
  where
    which : (u w : Bool) → ltb v k ≡ u → ltb k v ≡ w → has (2 ^ v) k ≡ eqb v k
    which true w a b = let h = ltb-true v k a in has-high (2 ^ v) k k (pow-lt h) (omega arith) ∙ sym (ne_eqb v k (λ e. omega arith))
    which false true a b = let h = ltb-true k v b in rw (← one-mul (2 ^ v), has-below_shift 1 v k h) (sym (ne_eqb v k (λ e. omega arith)))
    which false false a b =
        let h = ltb-false v k a in
        let g = ltb-false k v b in
        let e : v ≡ k = omega arith in
        rw e (has-own k ∙ sym (eq-eqb k k refl))

-- ---- sets within sets, and sets with nothing in common

pub has-bit : (m k : ℕ) → has m k ≡ true → bit_of k m ≡ 1
unfolding has
has-bit m k h = eqb-true (bit_of k m) 1 h

pub bit_has : (m k : ℕ) → bit_of k m ≡ 1 → has m k ≡ true
unfolding has
bit_has m k h = eq-eqb (bit_of k m) 1 h

-- each of the one's bits is the other's
abbrev pub Among : ℕ → ℕ → Type 0
Among a b = (k : ℕ) → has a k ≡ true → has b k ≡ true

module _ (a b : ℕ) where
  pub among_and : Among a b → bit_and a b ≡ a
  among_and w =
      let s : bit_or a b ≡ b = subset_or a b (λ k h. has-bit b k (w k (bit_has a k h))) in
      omega (arith, or_add_and a b)

  pub and-among : bit_and a b ≡ a → Among a b
  and-among e k h = ((and-eq-true_iff (has a k) (has b k)).0 (sym (has-and a b k) ∙ ap (λ (x : ℕ). has x k) e ∙ h)).1

  -- no bit is both the one's and the other's
  pub apart-and : ((k : ℕ) → has a k ≡ true → has b k ≡ false) → bit_and a b ≡ 0
  apart-and h = sym (or_zero_r (bit_and a b)) ∙ subset_or (bit_and a b) 0 none
    where
      both-set : (u w : Bool) → (u ≡ true → w ≡ false) → u && w ≡ true → ⊥
      both-set true w f e = true≢false (sym e ∙ f refl)
      both-set false w f e = true≢false (sym e)

      none : Subset (bit_and a b) 0
      none k e = absurd (both-set (has a k) (has b k) (h k) (sym (has-and a b k) ∙ bit_has (bit_and a b) k e))

  pub and-apart : bit_and a b ≡ 0 → (k : ℕ) → has a k ≡ true → has b k ≡ false
  and-apart e k h = other (has a k) (has b k) h (sym (has-and a b k) ∙ ap (λ (x : ℕ). has x k) e ∙ has-none k)
    where
      other : (u w : Bool) → u ≡ true → u && w ≡ false → w ≡ false
      other true w h k = k
      other false w h k = absurd (true≢false (sym h))

-- of two sets below n, a bit of the one that is not the other's, or none
module _ (a b : ℕ) where
  abbrev pub Missing : ℕ → Type 0
  Missing n = (k : ℕ) × (k < n) × (has a k ≡ true) × (has b k ≡ false)

  abbrev AmongBelow : ℕ → Type 0
  AmongBelow n = (k : ℕ) → k < n → has a k ≡ true → has b k ≡ true

  among_more : (n : ℕ) → (has a n ≡ true → has b n ≡ true) → AmongBelow n → AmongBelow (suc n)
  among_more n h f k lt e = which (eqb k n) refl
    where
      which : (u : Bool) → eqb k n ≡ u → has b k ≡ true
      which true q = let s = eqb-true k n q in rw s (h (rw s at e))
      which false q = let s = eqb-false k n q in f k (omega (arith, s)) e

  missing-to : (n : ℕ) → Missing n ⊎ AmongBelow n
  missing-to zero = inr (λ k h e. absurd (omega arith))
  missing-to (suc n) = ⊎_elim
      (λ m. inl (m.0, omega (arith, m.1), m.2, m.3))
      (λ f. look (has a n) (has b n) refl refl f)
      (missing-to n)
    where
      look : (u w : Bool) → has a n ≡ u → has b n ≡ w → AmongBelow n → Missing (suc n) ⊎ AmongBelow (suc n)
      look true true p q f = inr (among_more n (λ e. q) f)
      look true false p q f = inl (n, omega arith, p, q)
      look false w p q f = inr (among_more n (λ e. absurd (true≢false (sym e ∙ p))) f)

  pub missing : (n : ℕ) → ((k : ℕ) → n ≤ k → has a k ≡ false) → (bit_and a b ≡ a → ⊥) → Missing n
  missing n high ne = ⊎_elim (λ m. m) (λ f. absurd (ne (among_and a b (all f)))) (missing-to n)
    where
      all : AmongBelow n → Among a b
      all f k e = which (ltb k n) refl
        where
          which : (u : Bool) → ltb k n ≡ u → has b k ≡ true
          which true q = f k (ltb-true k n q) e
          which false q = absurd (true≢false (sym e ∙ high k (ltb-false k n q)))

-- ---- a bit by shifting

-- 1 shifted by less than 64 places is a power of two
pub shifted_one : (v : ℕ) → v < 64 → (1 * 2 ^ v) % 18446744073709551616 ≡ 2 ^ v
shifted_one v h =
    let small : 2 ^ v < 2 ^ 64 = pow-lt h in
    rw one-mul (mod-eq_of_lt (omega (arith, small)))
