-- What is in a set of terms, in one with a term more or less, and in the set of all; and how many there are. Assumes nothing.
use mathlib.Core.Path.{◌≡◌, refl, sym, ap, ◌∙◌}
use mathlib.Core.Bool.{Bool, true, false, ◌&&◌, ◌||◌, true≢false, and-eq-true_iff}
use mathlib.Core.List.{List}
use mathlib.Core.Logic.{◌⊎◌, inl, inr}
use Prim.Native.Nat.{ℕ, ◌-◌, ◌*◌, ◌/◌, ◌%◌, ◌^◌, ◌<◌}
use native.Mathlib.Omega.{arith}
use lib.Dec.{eqb}
use lib.ListN.{length, get_or, set, replicate, length-set, get_or-replicate}
use lib.Seq.{get_or-set_same, get_or-set_other}
use lib.Bits.{bit_and, bit_or, and_mask}
use borrow.Author.Tests.{eqb-true, eqb-false, eq-eqb}
use Rattle.ground.specs.Lists.{all_below}
use Rattle.ground.specs.Bits.{bit_of, has}
use Rattle.ground.proofs.Below.{below_all}
use Rattle.ground.proofs.Masks.{has-or, has-and, has-power, shifted_one}
use Rattle.termset.specs.Termset.{word_of, holds, Among, With, Without}

pub bit_tested : (word bit : ℕ) → eqb (bit_and (word / 2 ^ bit) 1) 1 ≡ has word bit
unfolding has
bit_tested word bit = ap (λ (x : ℕ). eqb x 1) (and_mask (word / 2 ^ bit) 1)

-- what is not in the larger set is not in the smaller
pub not-among : {a b : List ℕ} → Among a b → (term : ℕ) → holds b term ≡ false → holds a term ≡ false
not-among {a} {b} h term e = go (holds a term) refl
  where
    go : (u : Bool) → holds a term ≡ u → holds a term ≡ false
    go true w = absurd (true≢false (sym (h.also term w) ∙ e))
    go false w = w

pub among_self : (a : List ℕ) → Among a a
among_self a = record { long = refl; also = λ term h. h }

pub among_trans : {a b c : List ℕ} → Among a b → Among b c → Among a c
among_trans g h = record { long = h.long ∙ g.long; also = λ term e. h.also term (g.also term e) }

-- words that are all ones
all_ones : (k : ℕ) → k < 64 → has 18446744073709551615 k ≡ true
unfolding has all_below
all_ones = below_all 64 (has 18446744073709551615) refl

pub holds-all : (term : ℕ) → term < 65536 → holds (replicate 1024 18446744073709551615) term ≡ true
holds-all term h = rw (get_or-replicate {A = ℕ} 1024 (word_of term) 18446744073709551615 0 (omega arith)) (all_ones (term % 64) (omega arith))

-- ---- a term more

or_left : (u w : Bool) → u ≡ true → u || w ≡ true
or_left true w h = refl
or_left false w h = absurd (true≢false (sym h))

or_right : (u w : Bool) → w ≡ true → u || w ≡ true
or_right true w h = refl
or_right false w h = h

module _ (s : List ℕ) (term : ℕ) where
  -- the store that puts the term in
  abbrev pub with_bit : List ℕ
  with_bit = set s (word_of term) (bit_or (get_or s (word_of term) 0) ((1 * 2 ^ (term % 64)) % 18446744073709551616))

  module _ (long : word_of term < length s) where
    -- the bits of the word that is stored
    word_has : (k : ℕ) → has (get_or with_bit (word_of term) 0) k ≡ has (get_or s (word_of term) 0) k || eqb (term % 64) k
    word_has k =
        rw (get_or-set_same s (word_of term) (bit_or (get_or s (word_of term) 0) ((1 * 2 ^ (term % 64)) % 18446744073709551616)) 0 long, shifted_one (term % 64) (omega arith))
        (has-or (get_or s (word_of term) 0) (2 ^ (term % 64)) k ∙ ap (λ (b : Bool). has (get_or s (word_of term) 0) k || b) (has-power (term % 64) k))

    there : holds with_bit term ≡ true
    there = word_has (term % 64) ∙ or_right (has (get_or s (word_of term) 0) (term % 64)) (eqb (term % 64) (term % 64)) (eq-eqb (term % 64) (term % 64) refl)

    more : (u : ℕ) → holds s u ≡ true → holds with_bit u ≡ true
    more u h = go (eqb (word_of u) (word_of term)) refl
      where
        go : (b : Bool) → eqb (word_of u) (word_of term) ≡ b → holds with_bit u ≡ true
        go true e =
            let same : word_of u ≡ word_of term = eqb-true (word_of u) (word_of term) e in
            rw same (word_has (u % 64) ∙ or_left (has (get_or s (word_of term) 0) (u % 64)) (eqb (term % 64) (u % 64)) (rw same at h))
        go false e =
            rw (get_or-set_other s (word_of term) (word_of u) (bit_or (get_or s (word_of term) 0) ((1 * 2 ^ (term % 64)) % 18446744073709551616)) 0 (eqb-false (word_of u) (word_of term) e)) h

    pub put_in : With true term s with_bit
    put_in = record { more = record { long = length-set s (word_of term) _; also = more }; there = λ _. there }

-- ---- a term less

-- the words that are ones but for one bit
abbrev all_but : ℕ → ℕ
all_but bit = 18446744073709551615 - 2 ^ bit

but_has : (bit : ℕ) → bit < 64 → (k : ℕ) → k < 64 → eqb bit k || has (all_but bit) k ≡ true
unfolding has all_below
but_has bit h = below_all 64 (λ k. eqb bit k || has (all_but bit) k) (below_all 64 (λ b. all_below 64 (λ k. eqb b k || has (all_but b) k)) refl bit h)

but_lacks : (bit : ℕ) → bit < 64 → has (all_but bit) bit ≡ false
unfolding has all_below
but_lacks bit h = rw (eqb-true (bit_of bit (all_but bit)) 0 (below_all 64 (λ b. eqb (bit_of b (all_but b)) 0) refl bit h)) refl

or_other : (u w : Bool) → u || w ≡ true → u ≡ false → w ≡ true
or_other true w h e = absurd (true≢false e)
or_other false w h e = h

and-right_false : (u w : Bool) → w ≡ false → u && w ≡ false
and-right_false true w h = h
and-right_false false w h = refl

module _ (s : List ℕ) (term : ℕ) where
  -- the store that takes the term out
  abbrev pub without_bit : List ℕ
  without_bit = set s (word_of term) (bit_and (get_or s (word_of term) 0) (18446744073709551615 - (1 * 2 ^ (term % 64)) % 18446744073709551616))

  module _ (long : word_of term < length s) where
    left-has : (k : ℕ) → has (get_or without_bit (word_of term) 0) k ≡ has (get_or s (word_of term) 0) k && has (all_but (term % 64)) k
    left-has k =
        rw (
          get_or-set_same s (word_of term) (bit_and (get_or s (word_of term) 0) (18446744073709551615 - (1 * 2 ^ (term % 64)) % 18446744073709551616)) 0 long,
          shifted_one (term % 64) (omega arith),
        )
        (has-and (get_or s (word_of term) 0) (all_but (term % 64)) k)

    elsewhere : (u : ℕ) → (word_of u ≡ word_of term → ⊥) → holds without_bit u ≡ holds s u
    elsewhere u apart =
        rw (get_or-set_other s (word_of term) (word_of u) (bit_and (get_or s (word_of term) 0) (18446744073709551615 - (1 * 2 ^ (term % 64)) % 18446744073709551616)) 0 apart)
        refl

    less : (u : ℕ) → holds without_bit u ≡ true → holds s u ≡ true
    less u h = go (eqb (word_of u) (word_of term)) refl
      where
        go : (b : Bool) → eqb (word_of u) (word_of term) ≡ b → holds s u ≡ true
        go true e =
            let same : word_of u ≡ word_of term = eqb-true (word_of u) (word_of term) e in
            rw same ((and-eq-true_iff (has (get_or s (word_of term) 0) (u % 64)) (has (all_but (term % 64)) (u % 64))).0 (sym (left-has (u % 64)) ∙ (rw same at h))).0
        go false e = sym (elsewhere u (eqb-false (word_of u) (word_of term) e)) ∙ h

    gone : holds without_bit term ≡ false
    gone = left-has (term % 64) ∙ and-right_false (has (get_or s (word_of term) 0) (term % 64)) (has (all_but (term % 64)) (term % 64)) (but_lacks (term % 64) (omega arith))

    others : (u : ℕ) → holds s u ≡ true → (u ≡ term) ⊎ (holds without_bit u ≡ true)
    others u h = go (eqb (word_of u) (word_of term)) (eqb (term % 64) (u % 64)) refl refl
      where
        go : (b w : Bool) → eqb (word_of u) (word_of term) ≡ b → eqb (term % 64) (u % 64) ≡ w → (u ≡ term) ⊎ (holds without_bit u ≡ true)
        go true true e f = inl (omega (arith, eqb-true (word_of u) (word_of term) e, eqb-true (term % 64) (u % 64) f))
        go true false e f =
            let same : word_of u ≡ word_of term = eqb-true (word_of u) (word_of term) e in
            inr (rw same (left-has (u % 64) ∙ (and-eq-true_iff (has (get_or s (word_of term) 0) (u % 64)) (has (all_but (term % 64)) (u % 64))).1
            (rw same at h, or_other (eqb (term % 64) (u % 64)) (has (all_but (term % 64)) (u % 64)) (but_has (term % 64) (omega arith) (u % 64) (omega arith)) f)))
        go false w e f = inr (elsewhere u (eqb-false (word_of u) (word_of term) e) ∙ h)

    pub taken_out : Without term s without_bit
    taken_out = record { less = record { long = sym (length-set s (word_of term) _); also = less }; gone = gone; others = others }
