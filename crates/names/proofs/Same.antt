-- Texts compared: the test is equality, and what the code's loop finds. Assumes nothing.
use mathlib.Core.Path.{◌≡◌, refl, sym, ap, ◌∙◌}
use mathlib.Core.Bool.{Bool, true, false, ◌&&◌, false≢true}
use mathlib.Core.List.{List, [], ◌∷◌}
use Prim.Native.Nat.{ℕ, ◌+◌, ◌-◌, ◌≤◌, ◌<◌}
use native.Mathlib.Omega.{arith}
use lib.Dec.{eqb, ltb}
use lib.ListN.{length, get_or, take}
use Rattle.std.specs.Prelude.{IsTrue}
use Rattle.std.proofs.Common.{Decides}
use lib.Seq.{get_or-take, ext_get_or}
use borrow.Author.Tests.{eqb-true, eq-eqb, ltb-true, ltb-false}
use Rattle.names.specs.Entering.{same_text_lem}
use Rattle.names.specs.Finding.{SameIn, SameBehind}

pub both_true : (t u : Bool) → t && u ≡ true → (t ≡ true) × (u ≡ true)
both_true true u h = (refl, h)
both_true false u h = absurd (false≢true h)

pub same-is : (a b : List ℕ) → same_text_lem a b ≡ true → a ≡ b
unfolding same_text_lem
same-is [] [] h = refl
same-is [] (y ∷ ys) h = absurd (false≢true h)
same-is (x ∷ xs) [] h = absurd (false≢true h)
same-is (x ∷ xs) (y ∷ ys) h =
    let p = both_true (eqb x y) (same_text_lem xs ys) h in
    let e = eqb-true x y p.0 in
    let f = same-is xs ys p.1 in
    cc

same_refl : (a : List ℕ) → same_text_lem a a ≡ true
unfolding same_text_lem
same_refl [] = refl
same_refl (x ∷ xs) = rw (eq-eqb x x refl, same_refl xs) refl

pub is_same : (a b : List ℕ) → a ≡ b → same_text_lem a b ≡ true
is_same a b e = rw e (same_refl b)

pub not_same : (a b : List ℕ) → (a ≡ b → ⊥) → same_text_lem a b ≡ false
not_same a b h = go (same_text_lem a b) refl
  where
    go : (t : Bool) → same_text_lem a b ≡ t → same_text_lem a b ≡ false
    go true e = absurd (h (same-is a b e))
    go false e = e

module _ (text word : List ℕ) where
  pub other-size : (length text ≡ length word → ⊥) → false ≡ same_text_lem text word
  other-size h = sym (not_same text word (λ e. h (ap length e)))

  pub other_eight : (at : ℕ) → (SameIn text at word at 8 → IsTrue false) → false ≡ same_text_lem text word
  other_eight at h = sym (not_same text word (λ e. false≢true (h (λ k l. ap (λ (t : List ℕ). get_or t (at + k) 0) e))))

  -- eight bytes before those that are the same are the same too
  pub eight_more : (i j : ℕ) → SameBehind text word i → j + 8 ≡ i → SameIn text j word j 8 → SameBehind text word j
  eight_more i j b s h = record { within = let w = b.within in omega arith; same = λ k l m. go k l m (ltb k i) refl }
    where
      go : (k : ℕ) → j ≤ k → k < length word → (t : Bool) → ltb k i ≡ t → get_or text k 0 ≡ get_or word k 0
      go k l m true q =
          let n : k < i = ltb-true k i q in
          let y : j + (k - j) ≡ k = omega arith in
          let e : get_or text (j + (k - j)) 0 ≡ get_or word (j + (k - j)) 0 = h (k - j) (omega arith) in
          rw y at e
      go k l m false q = b.same k (ltb-false k i q) m

  -- the bytes in front of those that are the same decide
  module _ (i : ℕ) (long : length text ≡ length word) (b : SameBehind text word i) where
    front-same : take i text ≡ take i word → (k : ℕ) → k < length text → get_or text k 0 ≡ get_or word k 0
    front-same e k l = go (ltb k i) refl
      where
        go : (t : Bool) → ltb k i ≡ t → get_or text k 0 ≡ get_or word k 0
        go true q =
            let m : k < i = ltb-true k i q in
            sym (get_or-take i text k 0 m) ∙ ap (λ (t : List ℕ). get_or t k 0) e ∙ get_or-take i word k 0 m
        go false q = b.same k (ltb-false k i q) (omega arith)

    pub front_decides : (r : Bool) → Decides r (take i text ≡ take i word) → r ≡ same_text_lem text word
    front_decides true d = sym (is_same text word (ext_get_or 0 text word long (front-same (d.0 refl))))
    front_decides false d = sym (not_same text word (λ e. false≢true (d.1 (ap (take i) e))))
