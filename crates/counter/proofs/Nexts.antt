-- What stands next in the input: as the code finds it, and in the front of the input. Assumes nothing.
use mathlib.Core.Path.{◌≡◌, refl, sym, ap, ◌∙◌}
use mathlib.Core.Bool.{true, false}
use mathlib.Core.List.{List, [], ◌∷◌}
use Prim.Native.Nat.{ℕ, ◌+◌, ◌-◌, ◌*◌, ◌≤◌, ◌<◌}
use native.Mathlib.Decide.{dec_lt}
use native.Mathlib.Omega.{arith}
use lib.ListN.{length, get_or, take, drop}
use lib.Seq.{take_all, length-take-le, slice_empty}
use borrow.Author.Tests.{lt-ltb, le-ltb}
use Rattle.counter.specs.Counted.{Next, ended, cut, whole, behind_length, next}
use Rattle.std.specs.List.{slice_range}
use Rattle.counter.specs.Run.{front, behind}

-- ---- the three are apart

pub ended-not_cut : {x : Next} → x ≡ ended → x ≡ cut → ⊥
ended-not_cut p q = let z : ◌≡◌ {A = ℕ} 0 1 = cc in omega arith

pub ended-not_whole : {x : Next} {q r : List ℕ} → x ≡ ended → x ≡ whole q r → ⊥
ended-not_whole p h = let z : ◌≡◌ {A = ℕ} 0 1 = cc in omega arith

pub cut-not_whole : {x : Next} {q r : List ℕ} → x ≡ cut → x ≡ whole q r → ⊥
cut-not_whole p h = let z : ◌≡◌ {A = ℕ} 0 1 = cc in omega arith

pub same_whole : {x : Next} {q r q' r' : List ℕ} → x ≡ whole q r → x ≡ whole q' r' → (q ≡ q') × (r ≡ r')
same_whole p h = (cc, cc)

pub true-not_false : true ≡ false → ⊥
true-not_false p = let z : ◌≡◌ {A = ℕ} 0 1 = cc in omega arith

-- ---- bytes behind a length

length_cut : (n : ℕ) (r : List ℕ) → length r < n → behind_length n r ≡ cut
length_cut n r h = rw (lt-ltb (length r) n h) refl

length_whole : (n : ℕ) (r : List ℕ) → n ≤ length r → behind_length n r ≡ whole (take n r) (drop n r)
length_whole n r h = rw (le-ltb (length r) n h) refl

-- ---- as the code finds it

pub came_whole : (s part : List ℕ) (n : ℕ) → 2 ≤ length s → n ≡ get_or s 0 0 * 256 + get_or s 1 0
    → n ≤ length (take (length s - 2) (drop 2 s)) → part ≡ slice_range (take (length s - 2) (drop 2 s)) 0 n → (rest : List ℕ) × (next s ≡ whole part rest)
came_whole [] part n h e fits p = absurd (omega arith)
came_whole (x ∷ []) part n h e fits p = absurd (omega arith)
came_whole (x ∷ y ∷ r) part n h e fits p =
    let all : take (length (x ∷ y ∷ r) - 2) r ≡ r = take_all (length (x ∷ y ∷ r) - 2) r (omega arith) in
    let front : n - 0 ≡ n = omega arith in
    let is-part : part ≡ take n r = p ∙ rw (all, front) refl in
    (drop n r, ap (λ (j : ℕ). behind_length j r) (sym e) ∙ length_whole n r (rw all at fits) ∙ ap (λ (q : List ℕ). whole q (drop n r)) (sym is-part))

-- ---- the front of the input

module _ (n : ℕ) (r : List ℕ) where
  front-short : length r < n → behind_length n (take n r) ≡ cut
  front-short h = ap (behind_length n) (take_all n r (omega arith)) ∙ length_cut n r h

  front_long : n ≤ length r → behind_length n (take n r) ≡ whole (take n r) []
  front_long h =
      let long : length (take n r) ≡ n = length-take-le n r h in
      length_whole n (take n r) (omega arith) ∙ rw (take_all n (take n r) (omega arith), slice_empty n r) refl

pub front-ended : (s : List ℕ) → next s ≡ ended → next (front s) ≡ ended
front-ended [] e = refl
front-ended (x ∷ []) e = absurd (ended-not_cut e refl)
front-ended (x ∷ y ∷ r) e = go (dec_lt (length r) (x * 256 + y))
  where
    go : Dec (length r < x * 256 + y) → next (front (x ∷ y ∷ r)) ≡ ended
    go (yes h) = absurd (ended-not_cut e (length_cut (x * 256 + y) r h))
    go (no h) = absurd (ended-not_whole e (length_whole (x * 256 + y) r (omega arith)))

pub front_cut : (s : List ℕ) → next s ≡ cut → next (front s) ≡ cut
front_cut [] e = absurd (ended-not_cut refl e)
front_cut (x ∷ []) e = refl
front_cut (x ∷ y ∷ r) e = go (dec_lt (length r) (x * 256 + y))
  where
    go : Dec (length r < x * 256 + y) → next (front (x ∷ y ∷ r)) ≡ cut
    go (yes h) = front-short (x * 256 + y) r h
    go (no h) = absurd (cut-not_whole e (length_whole (x * 256 + y) r (omega arith)))

pub front-whole : (s q rest : List ℕ) → next s ≡ whole q rest → (next (front s) ≡ whole q []) × (behind s ≡ rest)
front-whole [] q rest e = absurd (ended-not_whole refl e)
front-whole (x ∷ []) q rest e = absurd (cut-not_whole refl e)
front-whole (x ∷ y ∷ r) q rest e = go (dec_lt (length r) (x * 256 + y))
  where
    go : Dec (length r < x * 256 + y) → (next (front (x ∷ y ∷ r)) ≡ whole q []) × (behind (x ∷ y ∷ r) ≡ rest)
    go (yes h) = absurd (cut-not_whole (length_cut (x * 256 + y) r h) e)
    go (no h) =
        let fits : x * 256 + y ≤ length r = omega arith in
        let same = same_whole (length_whole (x * 256 + y) r fits) e in
        (front_long (x * 256 + y) r fits ∙ ap (λ (p : List ℕ). whole p []) same.0, same.1)
