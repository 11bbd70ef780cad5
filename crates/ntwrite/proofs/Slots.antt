-- The slots filled from the last entry to the first. Assumes nothing.
use mathlib.Core.Path.{◌≡◌, refl, sym, ap, ◌∙◌}
use mathlib.Core.Bool.{Bool, true, false}
use mathlib.Core.List.{List}
use Prim.Native.Nat.{ℕ, ◌+◌, ◌-◌, ◌≤◌, ◌<◌}
use native.Mathlib.Omega.{arith}
use lib.Dec.{eqb}
use lib.ListN.{length, get_or, set}
use lib.Seq.{get_or-set_same, get_or-set_other}
use borrow.Author.Tests.{eqb-true, eqb-false}
use Rattle.names.specs.Finding.{NotBefore}
use Rattle.ntwrite.specs.Written.{slot_of, Indexed}

-- from entry i on, no entry of a number stands before where its slot says
abbrev pub FilledFrom : List ℕ → List ℕ → ℕ → ℕ → Type 0
FilledFrom slots terms names i = (k : ℕ) → i ≤ k → k < names → get_or slots (slot_of (get_or terms k 0)) 0 ≤ k

pub slot-filled : (slots terms : List ℕ) (names i : ℕ) → length slots ≡ 2048 → FilledFrom slots terms names (i + 1) → FilledFrom (set slots (slot_of (get_or terms i 0)) i) terms names i
slot-filled slots terms names i many old k from below = which (eqb (slot_of (get_or terms i 0)) (slot_of (get_or terms k 0))) refl
  where
    which : (b : Bool) → eqb (slot_of (get_or terms i 0)) (slot_of (get_or terms k 0)) ≡ b → get_or (set slots (slot_of (get_or terms i 0)) i) (slot_of (get_or terms k 0)) 0 ≤ k
    which true e =
        let same = eqb-true (slot_of (get_or terms i 0)) (slot_of (get_or terms k 0)) e in
        let is : get_or (set slots (slot_of (get_or terms i 0)) i) (slot_of (get_or terms k 0)) 0 ≡ i
        = ap (λ (j : ℕ). get_or (set slots (slot_of (get_or terms i 0)) i) j 0) (sym same) ∙ get_or-set_same slots (slot_of (get_or terms i 0)) i 0 (omega arith) in
        omega arith
    which false e =
        let differ = eqb-false (slot_of (get_or terms i 0)) (slot_of (get_or terms k 0)) e in
        let other : i ≡ k → ⊥ = λ z. differ (ap (λ (j : ℕ). slot_of (get_or terms j 0)) z) in
        let is = get_or-set_other slots (slot_of (get_or terms i 0)) (slot_of (get_or terms k 0)) i 0 (λ z. differ (sym z)) in
        let was = old k (omega (arith, other)) below in
        omega arith

-- the entry before i, as the code puts it in
pub slot-filled_at : (slots terms : List ℕ) (names i slot : ℕ) → 0 < i → slot ≡ slot_of (get_or terms (i - 1) 0) → length slots ≡ 2048 → FilledFrom slots terms names i →
    FilledFrom (set slots slot (i - 1)) terms names (i - 1)
slot-filled_at slots terms names i slot some e many old =
    let back : i - 1 + 1 ≡ i = omega arith in
    rw e (slot-filled slots terms names (i - 1) many (λ k from below. old k (omega arith) below))

pub all_filled : (slots terms : List ℕ) (names i : ℕ) → i ≤ 0 → length slots ≡ 2048 → FilledFrom slots terms names i → Indexed slots terms names
all_filled slots terms names i none many filled = record { many = many; begins = λ k below. filled k (omega arith) below }
