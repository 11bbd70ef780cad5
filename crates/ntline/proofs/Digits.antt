-- The digits of an escape, fed one by one, make its number: shown once, for whatever is fed. Assumes nothing.
use mathlib.Core.Path.{◌≡◌, refl, ap, ◌∙◌}
use mathlib.Core.Bool.{Bool, true, false, cond}
use mathlib.Core.List.{List, ◌∷◌, ◌++◌}
use Prim.Native.Nat.{ℕ, zero, suc, ◌+◌, ◌-◌, ◌*◌, ◌≤◌}
use native.Mathlib.Omega.{arith}
use lib.Dec.{eqb, leb}
use borrow.Author.Tests.{leb-true, le-leb, ne_eqb}
use Rattle.utf8.specs.Characters.{within, is_character_lem}
use Rattle.utf8.proofs.Judged.{and_right}
use Rattle.ntline.specs.declared.escapes.Fed.{Fed}
use Rattle.ntline.specs.Classes.{is_hex_lem, is_digit_lem, hex_value}
use Rattle.ntline.specs.Grammar.{Hexes}
use Rattle.ntline.specs.Escapes.{part, reckoned, shifted, hexed_by, fed_by}
use Rattle.ntline.proofs.Bools.{second}

-- a HEX is below 16
pub hex_small : (c : ℕ) → is_hex_lem c ≡ true → hex_value c ≤ 15
unfolding is_hex_lem is_digit_lem hex_value
hex_small c e = which (within 0x30 0x39 c) refl
  where
    letter : within 0x30 0x39 c ≡ false → (b : Bool) → within 0x41 0x46 c ≡ b → cond b (c - 0x37) (c - 0x57) ≤ 15
    letter d true u = omega (arith, leb-true c 0x46 (and_right (leb 0x41 c) (leb c 0x46) u))
    letter d false u =
        let l : within 0x61 0x66 c ≡ true = second (within 0x41 0x46 c) (within 0x61 0x66 c) u (second (within 0x30 0x39 c) _ d e) in
        omega (arith, leb-true c 0x66 (and_right (leb 0x61 c) (leb c 0x66) l))

    which : (b : Bool) → within 0x30 0x39 c ≡ b → cond b (c - 0x30) (cond (within 0x41 0x46 c) (c - 0x37) (c - 0x57)) ≤ 15
    which true d = omega (arith, leb-true c 0x39 (and_right (leb 0x30 c) (leb c 0x39) d))
    which false d = letter d (within 0x41 0x46 c) refl

-- digits only make a number larger
pub digits_grow : {n before number : ℕ} {hs : List ℕ} → Hexes n before hs number → before ≤ number
digits_grow Hexes.none = omega arith
digits_grow (Hexes.more {before = b} {h = h} x d) = let g = digits_grow d in omega arith

pub character_small : (c : ℕ) → is_character_lem c ≡ true → c ≤ 0x10FFFF
unfolding is_character_lem
character_small c e = which (within 0 0xD7FF c) refl
  where
    which : (b : Bool) → within 0 0xD7FF c ≡ b → c ≤ 0x10FFFF
    which true d = omega (arith, leb-true c 0xD7FF (and_right (leb 0 c) (leb c 0xD7FF) d))
    which false d = omega (arith, leb-true c 0x10FFFF (and_right (leb 0xE000 c) (leb c 0x10FFFF) (second (within 0 0xD7FF c) _ d e)))

pub not-part : (c : ℕ) → is_character_lem c ≡ true → eqb c part ≡ false
not-part c e = let s = character_small c e in ne_eqb c part (λ (x : c ≡ 0x110001). omega arith)

-- one digit, in the midst of an escape
pub fed-digit : (left value h : ℕ) → (left ≡ 0 → ⊥) → (left ≡ 9 → ⊥) → is_hex_lem h ≡ true → value ≤ 0x10FFFF →
    fed_by left value h ≡ reckoned left (value * 16 + hex_value h)
unfolding fed_by hexed_by shifted
fed-digit left value h some early hex small =
    rw (ne_eqb left 0 some, ne_eqb left 9 early, hex, le-leb value 0x10FFFF small, le-leb (hex_value h) 15 (hex_small h hex)) refl

-- no digits: the number so far
digits_over : {n before number : ℕ} {hs : List ℕ} → Hexes n before hs number → n ≡ 0 → before ≡ number
digits_over Hexes.none e = refl
digits_over (Hexes.more {n = n} x d) e = absurd (omega arith)

-- whatever is fed: it goes on while an escape lasts, and has its way with a character given
module _ {X : Type 0} (go : ℕ → ℕ → List ℕ → X) (done : ℕ → List ℕ → X) where
  abbrev pub taken : Fed → List ℕ → X
  taken f rest = cond (eqb f.out part) (go f.left f.value rest) (done f.out rest)

  -- so many digits left, the number so far
  abbrev pub held : ℕ → ℕ → List ℕ → X
  held zero value rest = done value rest
  held (suc n) value rest = go (suc n) value rest

  reckoned-last : (number : ℕ) (rest : List ℕ) → is_character_lem number ≡ true → taken (reckoned 1 number) rest ≡ done number rest
  unfolding reckoned
  reckoned-last number rest char = rw (char, not-part number char) refl

  reckoned-more : (m number : ℕ) (rest : List ℕ) → taken (reckoned (suc (suc m)) number) rest ≡ go (suc m) number rest
  unfolding reckoned
  reckoned-more m number rest =
      let e : suc (suc m) - 1 ≡ suc m = omega arith in
      rw (ne_eqb (suc (suc m)) 1 (λ (x : suc (suc m) ≡ 1). omega arith), e) refl

  -- the last digit, or one before it
  reckoned-held : (n number last : ℕ) (left rest : List ℕ) → is_character_lem last ≡ true → (n ≡ 0 → number ≡ last) →
      held n number left ≡ done last rest → taken (reckoned (suc n) number) left ≡ done last rest
  reckoned-held zero number last left rest char same h =
      reckoned-last number left (ap is_character_lem (same refl) ∙ char) ∙ h
  reckoned-held (suc m) number last left rest char same h = reckoned-more m number left ∙ h

  module _ (law : (left value h : ℕ) (rest : List ℕ) → (left ≡ 0 → ⊥) → (left ≡ 9 → ⊥) → go left value (h ∷ rest) ≡ taken (fed_by left value h) rest) where
    -- all of an escape's digits: the character is given, and what is behind them is left
    pub digits_given : {n before number : ℕ} {hs : List ℕ} → Hexes n before hs number → n ≤ 8 → is_character_lem number ≡ true →
        (rest : List ℕ) → held n before (hs ++ rest) ≡ done number rest
    digits_given Hexes.none few char rest = refl
    digits_given (Hexes.more {n = n} {before = b} {h = h} {number = number} {hs = hs} x d) few char rest =
        let large = digits_grow (Hexes.more {hs = hs} x d) in
        let small = character_small number char in
        law (suc n) b h (hs ++ rest) (λ (e : suc n ≡ 0). omega arith) (λ (e : suc n ≡ 9). omega arith)
        ∙ ap (λ (f : Fed). taken f (hs ++ rest)) (fed-digit (suc n) b h (λ (e : suc n ≡ 0). omega arith) (λ (e : suc n ≡ 9). omega arith) x (omega arith))
        ∙ reckoned-held n (b * 16 + hex_value h) number (hs ++ rest) rest char (digits_over d) (digits_given d (omega arith) char rest)
