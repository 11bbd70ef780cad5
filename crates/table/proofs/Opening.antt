-- A lane with room made in it, and what stands in it. Assumes nothing.
use mathlib.Core.Path.{◌≡◌, sym, ap, ◌∙◌}
use mathlib.Core.List.{List, ◌∷◌, ◌++◌, append_assoc}
use Prim.Native.Nat.{ℕ, suc, ◌+◌, ◌-◌, ◌≤◌, ◌<◌}
use native.Mathlib.Numerals.{add-one}
use native.Mathlib.Nat.{add-suc}
use native.Mathlib.Omega.{arith}
use lib.ListN.{length, get_or, take, drop, set, length-append, length-take, length-drop, get_or-append}
use lib.Seq.{paste, set_at, get_or_at, take-suc, length-take-le, get_or-append-add, get_or-take, get_or-drop}
use Rattle.table.specs.Putting.{opened}

module _ (at n v : ℕ) (l : List ℕ) (ha : at ≤ n) (hn : n < length l) where
  long-front : length (take at l) ≡ at
  long-front = length-take-le at l (omega arith)

  pub length-opened : length (opened at n v l) ≡ length l
  unfolding opened
  length-opened = simp (length-append, length-take, length-drop) (omega arith)

  pub opened-before : (k : ℕ) → k < at → get_or (opened at n v l) k 0 ≡ get_or l k 0
  unfolding opened
  opened-before k h = get_or-append (take at l) _ 0 k (omega (arith, long-front)) ∙ get_or-take at l k 0 h

  pub opened-at : get_or (opened at n v l) at 0 ≡ v
  unfolding opened
  opened-at = get_or_at (take at l) v _ 0 at long-front

  past : (j : ℕ) → get_or (opened at n v l) (suc (at + j)) 0 ≡ get_or (take (n - at) (drop at l) ++ drop (n + 1) l) j 0
  unfolding opened
  past j =
      ap (λ (i : ℕ). get_or (opened at n v l) i 0) (sym (add-suc at j) ∙ ap (λ (i : ℕ). i + suc j) (sym long-front))
      ∙ get_or-append-add (take at l) (v ∷ (take (n - at) (drop at l) ++ drop (n + 1) l)) (suc j) 0

  pub opened-moved : (k : ℕ) → at ≤ k → k < n → get_or (opened at n v l) (suc k) 0 ≡ get_or l k 0
  opened-moved k h g =
      let j : ℕ = k - at in
      let e : k ≡ at + j = omega arith in
      let m : length (take (n - at) (drop at l)) ≡ n - at = simp (length-take, length-drop) (omega arith) in
      rw e (past j
      ∙ get_or-append (take (n - at) (drop at l)) (drop (n + 1) l) 0 j (omega arith)
      ∙ get_or-take (n - at) (drop at l) j 0 (omega arith)
      ∙ get_or-drop at l j 0)

  pub opened-past : (k : ℕ) → n < k → get_or (opened at n v l) k 0 ≡ get_or l k 0
  opened-past k h =
      let j : ℕ = k - (n + 1) in
      let e : k ≡ suc (at + (n - at + j)) = omega arith in
      let e' : n + 1 + j ≡ k = omega arith in
      let m : length (take (n - at) (drop at l)) ≡ n - at = simp (length-take, length-drop) (omega arith) in
      ap (λ (i : ℕ). get_or (opened at n v l) i 0) e
      ∙ past (n - at + j)
      ∙ ap (λ (i : ℕ). get_or (take (n - at) (drop at l) ++ drop (n + 1) l) (i + j) 0) (sym m)
      ∙ get_or-append-add (take (n - at) (drop at l)) (drop (n + 1) l) j 0
      ∙ get_or-drop (n + 1) l j 0
      ∙ ap (λ (i : ℕ). get_or l i 0) e'

-- the rest moved up by one, and v in its place
pub opened_by-copy : {A : Type 0} (at n : ℕ) (v : A) (l : List A) → at ≤ n → n < length l → set (paste l (at + 1) (drop at l) (n - at)) at v ≡ opened at n v l
unfolding opened
opened_by-copy at n v l h k =
    let d : ℕ = n - at in
    let i : at < length l = omega arith in
    let e : at + 1 + d ≡ n + 1 = omega arith in
    rw (e, add-one at, take-suc l at v i, append_assoc, append_assoc)
    (set_at (take at l) (get_or l at v) (take d (drop at l) ++ drop (n + 1) l) v at (length-take-le at l (omega arith)))
