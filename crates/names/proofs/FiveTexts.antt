-- The five by number. Assumes nothing.
use mathlib.Core.Path.{◌≡◌, refl}
use mathlib.Core.Bool.{Bool, true, false, cond}
use mathlib.Core.List.{List}
use Prim.Native.Nat.{ℕ, zero, suc, ◌≤◌, ◌<◌}
use native.Mathlib.Omega.{arith}
use Rattle.std.specs.Prelude.{Option, Some, None, MatchOption}
use lib.Dec.{ltb}
use borrow.Author.Tests.{lt-ltb, ltb-true, ltb-false}
use Rattle.names.specs.Five.{five_text}
use Rattle.names.specs.Entering.{same_text_lem, five_number}
use Rattle.names.specs.Finding.{five_of}

-- the last stands for every number past the others
pub text-4 : (n : ℕ) → (n ≡ 0 → ⊥) → (n ≡ 1 → ⊥) → (n ≡ 2 → ⊥) → (n ≡ 3 → ⊥) → five_text n ≡ five_text 4
unfolding five_text
text-4 zero a b c d = absurd (a refl)
text-4 (suc zero) a b c d = absurd (b refl)
text-4 (suc (suc zero)) a b c d = absurd (c refl)
text-4 (suc (suc (suc zero))) a b c d = absurd (d refl)
text-4 (suc (suc (suc (suc n)))) a b c d = refl

-- which it is
module _ (word : List ℕ) where
  pub is-0 : true ≡ same_text_lem (five_text 0) word → 0 ≡ five_number word
  unfolding five_number
  is-0 a = rw (← a) refl

  module _ (no-0 : false ≡ same_text_lem (five_text 0) word) where
    pub is-1 : true ≡ same_text_lem (five_text 1) word → 1 ≡ five_number word
    unfolding five_number
    is-1 a = rw (← no-0, ← a) refl

    module _ (no-1 : false ≡ same_text_lem (five_text 1) word) where
      pub is-2 : true ≡ same_text_lem (five_text 2) word → 2 ≡ five_number word
      unfolding five_number
      is-2 a = rw (← no-0, ← no-1, ← a) refl

      module _ (no-2 : false ≡ same_text_lem (five_text 2) word) where
        pub is-3 : true ≡ same_text_lem (five_text 3) word → 3 ≡ five_number word
        unfolding five_number
        is-3 a = rw (← no-0, ← no-1, ← no-2, ← a) refl

        module _ (no-3 : false ≡ same_text_lem (five_text 3) word) where
          pub is-4 : true ≡ same_text_lem (five_text 4) word → 4 ≡ five_number word
          unfolding five_number
          is-4 a = rw (← no-0, ← no-1, ← no-2, ← no-3, ← a) refl

          pub is_none : false ≡ same_text_lem (five_text 4) word → 5 ≡ five_number word
          unfolding five_number
          is_none a = rw (← no-0, ← no-1, ← no-2, ← no-3, ← a) refl

module _ (word : List ℕ) where
  five_at : (n : ℕ) → n ≡ five_number word → n < 5 → Some n ≡ five_of word
  five_at n e h = rw (← e, lt-ltb n 5 h) refl

  no_five : 5 ≡ five_number word → None ≡ five_of word
  no_five e = rw (← e) refl

  -- which of the five is found where each is tried in turn, and that none is
  pub five_found : (r : Option ℕ)
      → MatchOption r ((k : ℕ) → 0 ≤ k → k < 5 → false ≡ same_text_lem (five_text k) word)
      (λ i. (0 ≤ i) × (i < 5) × (true ≡ same_text_lem (five_text i) word) × ((k : ℕ) → 0 ≤ k → k < i → false ≡ same_text_lem (five_text k) word))
      → r ≡ five_of word
  five_found None h =
      no_five (is_none word (h 0 (omega arith) (omega arith)) (h 1 (omega arith) (omega arith)) (h 2 (omega arith) (omega arith)) (h 3 (omega arith) (omega arith)) (h 4 (omega arith) (omega arith)))
  five_found (Some n) h = five_at n (which n h.1 h.2 h.3) h.1
    where
      which : (n : ℕ) → n < 5 → true ≡ same_text_lem (five_text n) word → ((k : ℕ) → 0 ≤ k → k < n → false ≡ same_text_lem (five_text k) word) → n ≡ five_number word
      which zero l t b = is-0 word t
      which (suc zero) l t b = is-1 word (b 0 (omega arith) (omega arith)) t
      which (suc (suc zero)) l t b = is-2 word (b 0 (omega arith) (omega arith)) (b 1 (omega arith) (omega arith)) t
      which (suc (suc (suc zero))) l t b = is-3 word (b 0 (omega arith) (omega arith)) (b 1 (omega arith) (omega arith)) (b 2 (omega arith) (omega arith)) t
      which (suc (suc (suc (suc zero)))) l t b =
          is-4 word (b 0 (omega arith) (omega arith)) (b 1 (omega arith) (omega arith)) (b 2 (omega arith) (omega arith)) (b 3 (omega arith) (omega arith)) t
      which (suc (suc (suc (suc (suc n))))) l t b = absurd (omega arith)

  -- what that says of its number
  pub five_some : (n : ℕ) → Some n ≡ five_of word → (n ≡ five_number word) × (five_number word < 5)
  five_some n e = go (ltb (five_number word) 5) refl e
    where
      go : (t : Bool) → ltb (five_number word) 5 ≡ t → Some n ≡ cond t (Some (five_number word)) None → (n ≡ five_number word) × (five_number word < 5)
      go true l e = (cc, ltb-true (five_number word) 5 l)
      go false l e = cc

  pub five_none : None ≡ five_of word → 5 ≤ five_number word
  five_none e = go (ltb (five_number word) 5) refl e
    where
      go : (t : Bool) → ltb (five_number word) 5 ≡ t → None ≡ cond t (Some (five_number word)) None → 5 ≤ five_number word
      go true l e = cc
      go false l e = ltb-false (five_number word) 5 l
