-- One text laid behind another is both laid; texts laid one after another; how long lines are. Assumes nothing.
use mathlib.Core.Path.{◌≡◌, refl, sym, ap, ◌∙◌}
use mathlib.Core.List.{List, [], ◌∷◌, ◌++◌, append-nil, append_assoc}
use Prim.Native.Nat.{ℕ, ◌+◌, ◌-◌, ◌*◌, ◌≤◌, ◌<◌}
use native.Mathlib.Nat.{suc-mul}
use native.Mathlib.Numerals.{add-one}
use native.Mathlib.Omega.{arith}
use lib.ListN.{length, set, get_or, take, drop, length-append, length-drop, take-append-drop}
use lib.Seq.{take_all, take_at, drop_at, length-take-le}
use Rattle.ground.specs.Lists.{tab, each}
use Rattle.ground.proofs.Each.{each_append, each-one}
use Rattle.ground.proofs.Tab.{tab-length}
use Rattle.names.proofs.Entries.{tab-snoc}
use Rattle.field.specs.Numbers.{written}
use Rattle.field.proofs.Writing.{length-written, written_one, written_on}
use Rattle.std.specs.Fmt.{decimal as Fmt-decimal}
use Rattle.table.specs.Rows.{Row}
use Rattle.printing.specs.Text.{bytes_of, decimal, behind_blank, line_feed, line, refused_line, closed_line, row_line, row_lines, closed_listing, asked_line, numbers_line, answer_line}
use Rattle.printing.specs.Laid.{Fits, Laid, LaidWithin, Fronted}
use Rattle.printing.proofs.Digits.{decimal-is, decimal-long, term-long}

-- ---- one text

module _ (b c d : List ℕ) (at mid end : ℕ) (v w : List ℕ) where
  pub laid_both : Fits b at (v ++ w) → Laid b c at mid v → Laid c d mid end w → Laid b d at end (v ++ w)
  laid_both h p q =
      let n = length-append v w in
      record {
        bytes_are = q.bytes_are ∙ ap (λ (x : List ℕ). written x mid w) p.bytes_are ∙ written_on b at v (omega arith) w mid p.end_is (omega arith);
        end_is = omega (arith, p.end_is, q.end_is);
      }

pub laid-length : {b c v : List ℕ} {at end : ℕ} → Laid b c at end v → Fits b at v → length c ≡ length b
laid-length {b} {c} {v} {at} {end} p h = ap length p.bytes_are ∙ length-written b at v h

pub laid_none : (b : List ℕ) (at : ℕ) → Laid b b at at []
unfolding written
laid_none b at =
    let k : at + 0 ≡ at = omega arith in
    record { bytes_are = sym (rw k (ap (λ (x : List ℕ). x ++ drop at b) (append-nil (take at b)) ∙ take-append-drop at b)); end_is = omega arith }

pub laid-byte : (b c : List ℕ) (at x : ℕ) → at + 1 ≤ length b → c ≡ set b at x → Laid b c at (at + 1) (x ∷ [])
laid-byte b c at x h e = record { bytes_are = e ∙ written_one b at x h; end_is = refl }

-- a text laid at the front is the first bytes, and the rest stays
pub laid-front : (Text : List ℕ → Type 0) (out out' text : List ℕ) (size : ℕ) → length text ≤ length out → Text text → Laid out out' 0 size text → Fronted Text out out' size
unfolding written
laid-front Text out out' text size h t p =
    let zero-on : 0 + length text ≡ length text = omega arith in
    let e : size ≡ length text = omega (arith, p.end_is) in
    let same = laid-length p (omega arith) in
    let bytes : out' ≡ text ++ drop (length text) out = p.bytes_are ∙ rw zero-on refl in
    record {
      counts = (omega arith, sym (length-take-le size out' (omega arith)));
      text_is = rw (bytes, take_at text (drop (length text) out) size (sym e)) t;
      rest_stays = rw (bytes, drop_at text (drop (length text) out) size (sym e), e) refl;
    }

-- the digits of a number of 64 bits, at the end of 20 bytes
module _ (word : List ℕ) (start n : ℕ) (small : n < 18446744073709551616) (s : start + length (Fmt-decimal n) ≡ 20) (t : drop start word ≡ Fmt-decimal n ++ []) where
  abbrev digits : List ℕ
  digits = take (20 - start) (drop start word)

  from_start : drop start word ≡ decimal n
  from_start = t ∙ append-nil (Fmt-decimal n) ∙ decimal-is n small

  pub decimal-size : 20 - start ≡ length (decimal n)
  decimal-size = let e = ap length (decimal-is n small) in omega (arith, s, e)

  pub same_digits : digits ≡ decimal n
  same_digits = rw from_start (take_all (20 - start) (decimal n) (omega (arith, decimal-size)))

-- ---- two texts, and texts one after another

pub laid_then : (b c d : List ℕ) (at mid end : ℕ) (v w : List ℕ) (few most : ℕ) → at + (few + most) ≤ length b → length v ≤ few
    → Laid b c at mid v → LaidWithin c d mid end w most → LaidWithin b d at end (v ++ w) (few + most)
laid_then b c d at mid end v w few most h short p q =
    let n = length-append v w in
    record { laid = laid_both b c d at mid end v w (omega (arith, q.within)) p q.laid; within = omega (arith, q.within) }

-- what f gives for the first k of the values g
module _ {A : Type 0} (f : A → List ℕ) (g : ℕ → A) where
  each_more : (k : ℕ) → each f (tab (k + 1) g) ≡ each f (tab k g) ++ f (g k)
  each_more k =
      ap (λ (j : ℕ). each f (tab j g)) (add-one k)
      ∙ ap (each f) (tab-snoc k g)
      ∙ each_append f (tab k g) (g k ∷ [])
      ∙ ap (λ (x : List ℕ). each f (tab k g) ++ x) (each-one f (g k))

  pub laid-first : (b : List ℕ) (at most : ℕ) → LaidWithin b b at at (each f (tab 0 g)) most
  unfolding tab each
  laid-first b at most = record { laid = laid_none b at; within = omega arith }

  module _ (b c : List ℕ) (at mid k most : ℕ) (fits : at + (k + 1) * most ≤ length b) (p : LaidWithin b c at mid (each f (tab k g)) (k * most)) (short : length (f (g k)) ≤ most) where
    one_more : (k + 1) * most ≡ k * most + most
    one_more = rw (add-one k) (suc-mul k most)

    pub next_fits : Fits c mid (f (g k))
    next_fits =
        let same = laid-length p.laid (omega (arith, p.within, one_more)) in
        omega (arith, p.laid.end_is, p.within, one_more)

    pub laid_next : (d : List ℕ) (end : ℕ) → Laid c d mid end (f (g k)) → LaidWithin b d at end (each f (tab (k + 1) g)) ((k + 1) * most)
    laid_next d end q =
        let n = length-append (each f (tab k g)) (f (g k)) in
        record {
          laid = rw (each_more k) (laid_both b c d at mid end (each f (tab k g)) (f (g k)) (omega (arith, p.within, one_more)) p.laid q);
          within = rw (each_more k) (omega (arith, p.within, one_more));
        }

-- a list by its places
pub tab-list : (l : List ℕ) → tab (length l) (λ i. get_or l i 0) ≡ l
unfolding tab
tab-list [] = refl
tab-list (x ∷ l) = ap (λ (y : List ℕ). x ∷ y) (tab-list l)

-- ---- lines

each_long : (ns : List ℕ) → length (each behind_blank ns) ≤ length ns * 21
unfolding each
each_long [] = omega arith
each_long (n ∷ ns) = omega (arith, length-append (behind_blank n) (each behind_blank ns), each_long ns, decimal-long n)

module _ (first ns : List ℕ) where
  line-length : length (line first ns) ≡ length first + length (each behind_blank ns) + 1
  unfolding line
  line-length = omega (arith, length-append (first ++ each behind_blank ns) line_feed, length-append first (each behind_blank ns))

  pub line-long : length (line first ns) ≤ length first + length ns * 21 + 1
  line-long = omega (arith, line-length, each_long ns)

  pub line-laid : (b₀ b₁ b₂ b₃ : List ℕ) (at e₁ e₂ e₃ : ℕ) → at + length first + length ns * 21 + 1 ≤ length b₀
      → Laid b₀ b₁ at e₁ first → Laid b₁ b₂ e₁ e₂ (each behind_blank ns) → Laid b₂ b₃ e₂ e₃ line_feed → Laid b₀ b₃ at e₃ (line first ns)
  unfolding line
  line-laid b₀ b₁ b₂ b₃ at e₁ e₂ e₃ h l₁ l₂ l₃ =
      let n = line-length in
      let long = line-long in
      let n₁ = length-append first (each behind_blank ns) in
      let two = laid_both b₀ b₁ b₂ at e₁ e₂ first (each behind_blank ns) (omega arith) l₁ l₂ in
      laid_both b₀ b₂ b₃ at e₂ e₃ (first ++ each behind_blank ns) line_feed (omega arith) two l₃

pub refused-long : (number place : ℕ) → length (refused_line number place) ≤ 50
unfolding bytes_of tab
refused-long number place = line-long (bytes_of "refused") (number ∷ place ∷ [])

pub closed-long : (kind base rows : ℕ) → length (closed_line kind base rows) ≤ 70
unfolding bytes_of tab
closed-long kind base rows = line-long (bytes_of "closed") (kind ∷ base ∷ rows ∷ [])

pub asked-long : (number place count looks : ℕ) → length (asked_line number place count looks) ≤ 90
unfolding bytes_of tab
asked-long number place count looks = line-long (bytes_of "asked") (number ∷ place ∷ count ∷ looks ∷ [])

-- ---- rows

regroup : (a b c d e : List ℕ) → a ++ (b ++ (c ++ (d ++ []))) ++ e ≡ a ++ b ++ c ++ d ++ e
regroup a b c d e = simp (append_assoc, append-nil)

module _ (s p o a : ℕ) where
  abbrev to-object : List ℕ
  to-object = decimal s ++ behind_blank p ++ behind_blank o

  row_is : row_line s p o a ≡ to-object ++ behind_blank a ++ line_feed
  unfolding line each
  row_is = regroup (decimal s) (behind_blank p) (behind_blank o) (behind_blank a) line_feed

  pub row-length : length (row_line s p o a) ≡ length (decimal s) + length (decimal p) + length (decimal o) + length (decimal a) + 4
  row-length =
      rw row_is
      (omega (arith, length-append (to-object ++ behind_blank a) line_feed, length-append to-object (behind_blank a), length-append (decimal s ++ behind_blank p) (behind_blank o), length-append (decimal s) (behind_blank p)))

  pub row-long : s < 65536 → p < 65536 → o < 65536 → length (row_line s p o a) ≤ 39
  row-long hs hp ho = omega (arith, row-length, term-long s hs, term-long p hp, term-long o ho, decimal-long a)

  pub row_laid : (b₀ b₁ b₂ b₃ b₄ b₅ : List ℕ) (at e₁ e₂ e₃ e₄ e₅ : ℕ) → Fits b₀ at (row_line s p o a)
      → Laid b₀ b₁ at e₁ (decimal s) → Laid b₁ b₂ e₁ e₂ (behind_blank p) → Laid b₂ b₃ e₂ e₃ (behind_blank o) → Laid b₃ b₄ e₃ e₄ (behind_blank a) → Laid b₄ b₅ e₄ e₅ line_feed
      → Laid b₀ b₅ at e₅ (row_line s p o a)
  row_laid b₀ b₁ b₂ b₃ b₄ b₅ at e₁ e₂ e₃ e₄ e₅ h l₁ l₂ l₃ l₄ l₅ =
      let n = row-length in
      let n₁ = length-append (decimal s) (behind_blank p) in
      let n₂ = length-append (decimal s ++ behind_blank p) (behind_blank o) in
      let n₃ = length-append to-object (behind_blank a) in
      let n₄ = length-append (to-object ++ behind_blank a) line_feed in
      let two = laid_both b₀ b₁ b₂ at e₁ e₂ (decimal s) (behind_blank p) (omega arith) l₁ l₂ in
      let three = laid_both b₀ b₂ b₃ at e₂ e₃ (decimal s ++ behind_blank p) (behind_blank o) (omega arith) two l₃ in
      let four = laid_both b₀ b₃ b₄ at e₃ e₄ to-object (behind_blank a) (omega arith) three l₄ in
      rw row_is (laid_both b₀ b₄ b₅ at e₄ e₅ (to-object ++ behind_blank a) line_feed (omega arith) four l₅)

-- the rows behind the header
pub closed-laid : (b c d : List ℕ) (mid end kind base count : ℕ) (g : ℕ → Row) → 70 + count * 39 ≤ length b
    → Laid b c 0 mid (closed_line kind base count) → LaidWithin c d mid end (row_lines (tab count g)) (count * 39)
    → LaidWithin b d 0 end (closed_listing kind base (tab count g)) (70 + count * 39)
closed-laid b c d mid end kind base count g h p q =
    rw (tab-length count g) (laid_then b c d 0 mid end (closed_line kind base count) (row_lines (tab count g)) 70 (count * 39) (omega arith) (closed-long kind base count) p q)

-- ---- answers

answer-begins : (anns l : List ℕ) → 1 ≤ length l → answer_line l anns ≡ decimal (get_or l 0 0) ++ each behind_blank (drop 1 l) ++ each behind_blank anns ++ line_feed
unfolding numbers_line line
answer-begins anns [] h = absurd (omega arith)
answer-begins anns (t ∷ ts) h = rw (each_append behind_blank ts anns) (simp append_assoc)

-- the terms behind the first
pub rest_is : (terms : List ℕ) → take (length terms - 1) (drop 1 terms) ≡ drop 1 terms
rest_is terms = take_all (length terms - 1) (drop 1 terms) (omega (arith, length-drop 1 terms))

pub rest-long : (terms : List ℕ) → length (take (length terms - 1) (drop 1 terms)) ≡ length terms - 1
rest-long terms = ap length (rest_is terms) ∙ length-drop 1 terms

-- an answer in the lanes
module _ (terms anns : List ℕ) (sixteen : length terms ≡ 16) (eight : length anns ≡ 8) (small : get_or terms 0 0 < 65536) where
  abbrev rest : List ℕ
  rest = take (length terms - 1) (drop 1 terms)

  answer_is : answer_line terms anns ≡ decimal (get_or terms 0 0) ++ each behind_blank rest ++ each behind_blank anns ++ line_feed
  answer_is = answer-begins anns terms (omega arith) ∙ ap (λ (r : List ℕ). decimal (get_or terms 0 0) ++ each behind_blank r ++ each behind_blank anns ++ line_feed) (sym (rest_is terms))

  pub answer-laid : (b₀ b₁ b₂ b₃ b₄ : List ℕ) (at e₁ e₂ e₃ e₄ : ℕ) → at + 264 ≤ length b₀
      → Laid b₀ b₁ at e₁ (decimal (get_or terms 0 0)) → LaidWithin b₁ b₂ e₁ e₂ (each behind_blank rest) (length rest * 6)
      → LaidWithin b₂ b₃ e₂ e₃ (each behind_blank anns) (length anns * 21) → Laid b₃ b₄ e₃ e₄ line_feed
      → LaidWithin b₀ b₄ at e₄ (answer_line terms anns) 264
  answer-laid b₀ b₁ b₂ b₃ b₄ at e₁ e₂ e₃ e₄ h l₁ l₂ l₃ l₄ =
      let short = term-long (get_or terms 0 0) small in
      let n = rest-long terms in
      let l₂' : LaidWithin b₁ b₂ e₁ e₂ (each behind_blank rest) 90 = record { laid = l₂.laid; within = omega (arith, l₂.within) } in
      let l₃' : LaidWithin b₂ b₃ e₂ e₃ (each behind_blank anns) 168 = record { laid = l₃.laid; within = omega (arith, l₃.within) } in
      let l₄' : LaidWithin b₃ b₄ e₃ e₄ line_feed 1 = record { laid = l₄; within = omega arith } in
      let two = laid_then b₀ b₁ b₂ at e₁ e₂ (decimal (get_or terms 0 0)) (each behind_blank rest) 5 90 (omega arith) short l₁ l₂' in
      let three = laid_then b₀ b₂ b₃ at e₂ e₃ (decimal (get_or terms 0 0) ++ each behind_blank rest) (each behind_blank anns) 95 168 (omega arith) two.within two.laid l₃' in
      rw answer_is
      (laid_then b₀ b₃ b₄ at e₃ e₄ (decimal (get_or terms 0 0) ++ each behind_blank rest ++ each behind_blank anns) line_feed 263 1 (omega arith) three.within three.laid l₄')
