-- A file's lines by positions: an EOL begins none, and a line goes on to its end. Assumes nothing.
use mathlib.Core.Path.{◌≡◌, refl, ap, subst, ◌∙◌}
use mathlib.Core.Bool.{Bool, true, false}
use mathlib.Core.List.{List, [], ◌∷◌}
use Prim.Native.Nat.{ℕ, zero, suc, ◌+◌, ◌-◌, ◌≤◌, ◌<◌}
use native.Mathlib.Numerals.{add-one}
use native.Mathlib.Omega.{arith}
use native.Mathlib.Decide.{dec_lt}
use lib.Dec.{ltb}
use lib.ListN.{length, get_or, drop, drop_of_length-le}
use lib.Seq.{slice, slice-cons, slice_empty, drop-cons}
use borrow.Author.Tests.{ltb-true, ltb-false}
use Rattle.ntread.specs.Reading.{is_eol, line_at, begins_line, lines_from}
use Rattle.ntread.specs.Inner.{Inside, LineEnd}

module _ (b : List ℕ) where
  -- nothing is left
  pub lines_over : (at : ℕ) → length b ≤ at → lines_from at (drop at b) ≡ []
  unfolding lines_from
  lines_over at h = ap (lines_from at) (drop_of_length-le b {i = at} h)

  -- the first byte that is left
  front : (at : ℕ) → at < length b → drop at b ≡ get_or b at 0 ∷ drop (suc at) b
  front at h = drop-cons b at 0 h

  pub lines_skip : (at : ℕ) → at < length b → is_eol (get_or b at 0) ≡ true → lines_from at (drop at b) ≡ lines_from (at + 1) (drop (at + 1) b)
  unfolding lines_from
  lines_skip at h e = ap (lines_from at) (front at h) ∙ rw (e, add-one at) refl

  -- no line begins where one has ended, and one goes on where none has
  ended : (at : ℕ) → (at < length b → is_eol (get_or b at 0) ≡ true) → begins_line (drop at b) ≡ false
  ended at over = go (ltb at (length b)) refl
    where
      go : (t : Bool) → ltb at (length b) ≡ t → begins_line (drop at b) ≡ false
      go true q = let h = ltb-true at (length b) q in ap begins_line (front at h) ∙ rw (over h) refl
      go false q = ap begins_line (drop_of_length-le b {i = at} (ltb-false at (length b) q))

  going_on : (at : ℕ) → at < length b → is_eol (get_or b at 0) ≡ false → begins_line (drop at b) ≡ true
  going_on at h e = ap begins_line (front at h) ∙ rw e refl

  module _ (end : ℕ) (within : end ≤ length b) (over : end < length b → is_eol (get_or b end 0) ≡ true) where
    line_of : (n at : ℕ) → at + suc n ≡ end → ((i : ℕ) → at ≤ i → i < end → is_eol (get_or b i 0) ≡ false)
        → lines_from at (drop at b) ≡ line_at at (slice at end b) ∷ lines_from end (drop end b)
    unfolding lines_from
    line_of zero at e inside =
        let here = inside at (omega arith) (omega arith) in
        let next : suc at ≡ end = omega arith in
        let one : slice at end b ≡ get_or b at 0 ∷ [] = slice-cons at end b 0 (omega arith) within ∙ ap (λ (l : List ℕ). get_or b at 0 ∷ l) (rw next (slice_empty end b)) in
        let none : begins_line (drop (suc at) b) ≡ false = rw next (ended end over) in
        ap (lines_from at) (front at (omega arith)) ∙ rw (here, none, one) (ap (λ (k : ℕ). line_at at (get_or b at 0 ∷ []) ∷ lines_from k (drop k b)) next)
    line_of (suc n) at e inside =
        let here = inside at (omega arith) (omega arith) in
        let there = going_on (suc at) (omega arith) (inside (suc at) (omega arith) (omega arith)) in
        let again = line_of n (suc at) (omega arith) (λ i p q. inside i (omega arith) q) in
        let more : slice at end b ≡ get_or b at 0 ∷ slice (suc at) end b = slice-cons at end b 0 (omega arith) within in
        ap (lines_from at) (front at (omega arith)) ∙ rw (here, there, again, more) refl

  pub lines_line : (at end : ℕ) → at < end → LineEnd b at end → lines_from at (drop at b) ≡ line_at at (slice at end b) ∷ lines_from end (drop end b)
  lines_line at end h e = line_of end e.within e.over (end - at - 1) at (omega arith) e.inside

-- ---- where a line ends

module _ (b : List ℕ) (at i : ℕ) (run : Inside b at i) where
  pub end_here : i < length b → is_eol (get_or b i 0) ≡ true → LineEnd b at i
  end_here h e = record { from = run.from; within = run.within; inside = run.each; over = λ q. e }

  pub end_over : length b ≤ i → LineEnd b at i
  end_over h = record { from = run.from; within = run.within; inside = run.each; over = λ q. absurd (omega arith) }

  -- so many bytes more
  pub inside-block : (size : ℕ) → i + size ≤ length b → ((k : ℕ) → k < size → is_eol (get_or b (i + k) 0) ≡ false) → Inside b at (i + size)
  inside-block size h e = record {
    from = omega (arith, run.from);
    within = h;
    each = λ k p q. which k p q (dec_lt k i);
  }
    where
      which : (k : ℕ) → at ≤ k → k < i + size → Dec (k < i) → is_eol (get_or b k 0) ≡ false
      which k p q (yes l) = run.each k p l
      which k p q (no l) =
          let is : i + (k - i) ≡ k = omega arith in
          subst (λ (n : ℕ). is_eol (get_or b n 0) ≡ false) is (e (k - i) (omega arith))

  pub inside-more : i < length b → is_eol (get_or b i 0) ≡ false → Inside b at (i + 1)
  inside-more h e =
      inside-block 1 (omega arith) (λ k l. let is : i ≡ i + k = omega arith in subst (λ (n : ℕ). is_eol (get_or b n 0) ≡ false) is e)

pub inside-none : (b : List ℕ) (at : ℕ) → at ≤ length b → Inside b at at
inside-none b at h = record { from = omega arith; within = h; each = λ k p q. absurd (omega arith) }
