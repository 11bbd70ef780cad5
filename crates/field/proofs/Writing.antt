-- Bytes written one after another, and what stands where they were not written. Assumes nothing.
use mathlib.Core.Path.{◌≡◌, refl, sym, ap, ◌∙◌}
use mathlib.Core.List.{List, [], ◌∷◌, ◌++◌, append_assoc}
use Prim.Native.Nat.{ℕ, ◌+◌, ◌/◌, ◌%◌, ◌≤◌}
use native.Mathlib.Numerals.{add-one}
use native.Mathlib.Omega.{arith}
use lib.ListN.{length, set, take, drop, length-append, length-take, length-drop}
use lib.Seq.{sets-eq, take_at, drop-append-add, length-take-le, drop-drop}
use borrow.Rule.Slice.PartMut.{put_mid}
use Rattle.field.specs.Numbers.{written, two_hold, four_hold, two_bytes, four_bytes, eight_bytes}

pub length_two : (n : ℕ) → length (two_bytes n) ≡ 2
unfolding two_bytes
length_two n = refl

pub length-four : (n : ℕ) → length (four_bytes n) ≡ 4
unfolding four_bytes two_bytes
length-four n = refl

pub length-eight : (n : ℕ) → length (eight_bytes n) ≡ 8
unfolding eight_bytes four_bytes two_bytes
length-eight n = refl

pub written-two : (b : List ℕ) (at x y : ℕ) → at + 2 ≤ length b → set (set b at x) (at + 1) y ≡ written b at (x ∷ y ∷ [])
unfolding written
written-two b at x y h = rw (add-one at) (sets-eq (x ∷ y ∷ []) b at h)

module _ (b : List ℕ) (at : ℕ) (v : List ℕ) (fits : at + length v ≤ length b) where
  pub length-written : length (written b at v) ≡ length b
  unfolding written
  length-written = simp (length-append, length-take, length-drop) (omega arith)

  -- writing on where the first bytes end is writing both
  pub written_on : (w : List ℕ) (next : ℕ) → next ≡ at + length v → at + (length v + length w) ≤ length b
      → written (written b at v) next w ≡ written b at (v ++ w)
  unfolding written
  written_on w next e h =
      let front : length (take at b ++ v) ≡ next = length-append (take at b) v ∙ rw (length-take-le at b (omega arith)) (sym e) in
      let a : take next ((take at b ++ v) ++ drop (at + length v) b) ≡ take at b ++ v = take_at (take at b ++ v) (drop (at + length v) b) next front in
      let d : drop (next + length w) ((take at b ++ v) ++ drop (at + length v) b) ≡ drop (length w) (drop (at + length v) b)
      = ap (λ (k : ℕ). drop (k + length w) ((take at b ++ v) ++ drop (at + length v) b)) (sym front) ∙ drop-append-add (take at b ++ v) (drop (at + length v) b) (length w) in
      let k : at + length v + length w ≡ at + length (v ++ w) = omega (arith, length-append v w) in
      let d' : drop (length w) (drop (at + length v) b) ≡ drop (at + length (v ++ w)) b = drop-drop (length w) (at + length v) b ∙ ap (λ (i : ℕ). drop i b) k in
      rw (a, d, d') (ap (λ (l : List ℕ). l ++ drop (at + length (v ++ w)) b) (append_assoc (take at b) v w))

-- two writings in a row, as the code makes them
pub written_both : (b c d : List ℕ) (at k : ℕ) (v w : List ℕ) → length v ≡ k → at + (k + length w) ≤ length b
    → c ≡ written b at v → d ≡ written c (at + k) w → d ≡ written b at (v ++ w)
written_both b c d at k v w ek h ec ed =
    ed ∙ ap (λ (x : List ℕ). written x (at + k) w) ec ∙ written_on b at v (rw ek (omega arith)) w (at + k) (rw ek refl) (rw ek h)

pub written_one : (b : List ℕ) (at x : ℕ) → at + 1 ≤ length b → set b at x ≡ written b at (x ∷ [])
unfolding written
written_one b at x h = sets-eq (x ∷ []) b at h

-- a part of the bytes written over
pub written_part : (b : List ℕ) (at k : ℕ) (u v : List ℕ) → u ≡ v → k ≡ length v → put_mid at k b u ≡ written b at v
unfolding written
written_part b at k u v e h = rw (e, h, drop-drop (length v) at b) (sym (append_assoc (take at b) v (drop (at + length v) b)))

-- the bytes of a number by themselves
pub eight_are : (n : ℕ) → eight_bytes n
    ≡ n / 72057594037927936 % 256 ∷ n / 281474976710656 % 256 ∷ n / 1099511627776 % 256 ∷ n / 4294967296 % 256 ∷ n / 16777216 % 256 ∷ n / 65536 % 256 ∷ n / 256 % 256 ∷ n % 256 ∷ []
unfolding eight_bytes four_bytes two_bytes
eight_are n =
    let hi = n / four_hold % four_hold in
    let lo = n % four_hold in
    let e0 : hi / two_hold % two_hold / 256 % 256 ≡ n / 72057594037927936 % 256 = omega arith in
    let e1 : hi / two_hold % two_hold % 256 ≡ n / 281474976710656 % 256 = omega arith in
    let e2 : hi % two_hold / 256 % 256 ≡ n / 1099511627776 % 256 = omega arith in
    let e3 : hi % two_hold % 256 ≡ n / 4294967296 % 256 = omega arith in
    let e4 : lo / two_hold % two_hold / 256 % 256 ≡ n / 16777216 % 256 = omega arith in
    let e5 : lo / two_hold % two_hold % 256 ≡ n / 65536 % 256 = omega arith in
    let e6 : lo % two_hold / 256 % 256 ≡ n / 256 % 256 = omega arith in
    let e7 : lo % two_hold % 256 ≡ n % 256 = omega arith in
    rw (e0, e1, e2, e3, e4, e5, e6, e7) refl
