-- Which rows can be written, and the bytes of rows one behind another. Assumes nothing.
use mathlib.Core.Path.{◌≡◌, refl, sym, ap, subst, ◌∙◌}
use mathlib.Core.Bool.{Bool, true, false, not}
use mathlib.Core.List.{List, [], ◌++◌, append_assoc, append-nil}
use Prim.Native.Nat.{ℕ, zero, suc, ◌+◌, ◌-◌, ◌≤◌, ◌<◌}
use native.Mathlib.Numerals.{add-one}
use native.Mathlib.Omega.{arith}
use native.Mathlib.Decide.{dec_lt}
use Rattle.std.specs.Prelude.{Option, Some, None, MatchOption}
use lib.ListN.{length, get_or, set, length-append, take-append-drop}
use Rattle.ground.specs.Lists.{tab}
use Rattle.field.specs.Numbers.{written}
use Rattle.field.proofs.Writing.{written_both}
use Rattle.term.specs.Refusal.{Check, verdict, first}
use Rattle.term.specs.Term.{sort_of}
use Rattle.term.proofs.Firsts.{first_holds, first_passes}
use Rattle.table.specs.Rows.{Row, Lanes, row_at}
use Rattle.names.specs.Names.{Entry, NameLanes, text_at_lem, entries_of}
use Rattle.names.specs.Finding.{FirstWith, FoundWith}
use Rattle.names.proofs.Looking.{first-text, first-none}
use Rattle.ntwrite.specs.Written.{line_bytes}
use Rattle.ntwrite.proofs.Pieces.{text-listed}
use Rattle.nttext.specs.Texts.{is_legal_text}
use Rattle.nttext.proofs.LegalTexts.{empty-illegal}
use Rattle.ntriples.specs.Writing.{has_text, is_unwritable, rows_writable, file_bytes}
use Rattle.ntriples.specs.Inner.{Marked, lines_bytes, Lowest, FirstUnwritable}
use lib.Seq.{get_or-set_same, get_or-set_other}

-- ---- a term, and a row

-- the first entry that has a number says whether its text is legal
module _ (l : NameLanes) (names n i : ℕ) (high : 5 ≤ n) (first : FirstWith l.terms names n i) where
  pub marked-has_text : i < names → (good : List Bool) → Marked l names good → get_or good i false ≡ has_text (entries_of l names) n
  marked-has_text h good m =
      m.are i h ∙ ap (λ (k : ℕ). is_legal_text (sort_of k) (text_at_lem l.ends l.text i)) (first.has h)
      ∙ ap (is_legal_text (sort_of n)) (sym (text-listed (entries_of l names) n high ∙ first-text l names n i first h))

  pub none-has_text : names ≤ i → false ≡ has_text (entries_of l names) n
  none-has_text h = sym (ap (is_legal_text (sort_of n)) (text-listed (entries_of l names) n high ∙ first-none l names n i first h) ∙ empty-illegal (sort_of n))

-- where it is looked for, what is said of the entry is said of the text
pub judged_has_text : (l : NameLanes) (names n : ℕ) → 5 ≤ n → (good : List Bool) → Marked l names good → (o : Option ℕ) (r : Bool) (P : ℕ → Type 0) → FoundWith l.terms names n o
    → ((i : ℕ) → P i → r ≡ get_or good i false) → MatchOption o (r ≡ false) P → r ≡ has_text (entries_of l names) n
judged_has_text l names n high good m None r P f is e = e ∙ none-has_text l names n names high f (omega arith)
judged_has_text l names n high good m (Some i) r P f is e = is i e ∙ marked-has_text l names n i high f.1 f.0 good m

-- the entries before i are judged
abbrev pub MarkedTo : NameLanes → ℕ → List Bool → Type 0
MarkedTo l i good = (k : ℕ) → k < i → get_or good k false ≡ is_legal_text (sort_of (get_or l.terms k 0)) (text_at_lem l.ends l.text k)

pub one-marked : (l : NameLanes) (i sort : ℕ) (text : List ℕ) (good : List Bool) (b : Bool) → i < length good → MarkedTo l i good
    → text ≡ text_at_lem l.ends l.text i → sort ≡ sort_of (get_or l.terms i 0) → b ≡ is_legal_text sort text → MarkedTo l (i + 1) (set good i b)
one-marked l i sort text good b long old is e eb k h = go (dec_lt k i)
  where
    right : b ≡ is_legal_text (sort_of (get_or l.terms i 0)) (text_at_lem l.ends l.text i)
    right = rw (← e, ← is) eb

    go : Dec (k < i) → get_or (set good i b) k false ≡ is_legal_text (sort_of (get_or l.terms k 0)) (text_at_lem l.ends l.text k)
    go (yes q) = get_or-set_other good i k b false (λ (z : k ≡ i). omega arith) ∙ old k q
    go (no q) =
        let same : i ≡ k = omega arith in
        subst (λ (j : ℕ). get_or (set good i b) j false ≡ is_legal_text (sort_of (get_or l.terms j 0)) (text_at_lem l.ends l.text j)) same
        (get_or-set_same good i b false long ∙ right)

twice : (d : Bool) → d ≡ not (not d)
twice true = refl
twice false = refl

-- the first row whose test fails is the lowest that cannot be written
pub found_unwritable : (es : List Entry) (l : Lanes) (count : ℕ) (r : Option ℕ)
    → MatchOption r ((k : ℕ) → 0 ≤ k → k < count → false ≡ not (not (is_unwritable es (row_at l k))))
    (λ i. (0 ≤ i) × (i < count) × (true ≡ not (not (is_unwritable es (row_at l i)))) × ((k : ℕ) → 0 ≤ k → k < i → false ≡ not (not (is_unwritable es (row_at l k)))))
    → FirstUnwritable es l count r
found_unwritable es l count None h = record { within = omega arith; passed = λ i q. twice _ ∙ sym (h i (omega arith) q); stops = λ q. absurd (omega arith) }
found_unwritable es l count (Some i) h = (h.1, record { within = let k = h.1 in omega arith; passed = λ j q. twice _ ∙ sym (h.3 j (omega arith) q); stops = λ q. twice _ ∙ sym h.2 })

-- ---- the bytes of rows

lines_more : (es : List Entry) (n : ℕ) (f : ℕ → Row) → file_bytes es (tab (suc n) f) ≡ file_bytes es (tab n f) ++ line_bytes es (f n).s (f n).p (f n).o
unfolding file_bytes tab
lines_more es zero f = append-nil (line_bytes es (f zero).s (f zero).p (f zero).o)
lines_more es (suc n) f =
    ap (λ (x : List ℕ). line_bytes es (f zero).s (f zero).p (f zero).o ++ x) (lines_more es n (λ i. f (suc i)))
    ∙ sym (append_assoc (line_bytes es (f zero).s (f zero).p (f zero).o) (file_bytes es (tab n (λ i. f (suc i)))) (line_bytes es (f (suc n)).s (f (suc n)).p (f (suc n)).o))

module _ (es : List Entry) (l : Lanes) where
  abbrev line : ℕ → List ℕ
  line i = line_bytes es (get_or l.subj i 0) (get_or l.pred i 0) (get_or l.obj i 0)

  pub none-long : 0 ≡ length (lines_bytes es l 0)
  unfolding file_bytes tab
  none-long = refl

  next-lines : (i : ℕ) → lines_bytes es l (suc i) ≡ lines_bytes es l i ++ line_bytes es (get_or l.subj i 0) (get_or l.pred i 0) (get_or l.obj i 0)
  next-lines i = lines_more es i (row_at l)

  next_long : (i : ℕ) → length (lines_bytes es l (suc i)) ≡ length (lines_bytes es l i) + length (line_bytes es (get_or l.subj i 0) (get_or l.pred i 0) (get_or l.obj i 0))
  next_long i = ap length (next-lines i) ∙ length-append (lines_bytes es l i) (line i)

  pub size_step : (i size more : ℕ) → size ≡ length (lines_bytes es l i) → more ≡ length (line_bytes es (get_or l.subj i 0) (get_or l.pred i 0) (get_or l.obj i 0)) →
      size + more ≡ length (lines_bytes es l (i + 1))
  size_step i size more e h = rw (add-one i) (let n = next_long i in omega arith)

  grows : (i d : ℕ) → length (lines_bytes es l i) ≤ length (lines_bytes es l (d + i))
  grows i zero = let e : 0 + i ≡ i = omega arith in rw e (omega arith)
  grows i (suc d) = let e : suc d + i ≡ suc (d + i) = omega arith in rw e (let a = grows i d in let n = next_long (d + i) in omega arith)

  pub line-fits : (i n : ℕ) → i < n → length (lines_bytes es l i) + length (line_bytes es (get_or l.subj i 0) (get_or l.pred i 0) (get_or l.obj i 0)) ≤ length (lines_bytes es l n)
  line-fits i n h =
      let e : n - suc i + suc i ≡ n = omega arith in
      let g : length (lines_bytes es l (suc i)) ≤ length (lines_bytes es l n) = rw e at (grows (suc i) (n - suc i)) in
      let m = next_long i in
      omega arith

  written_none : (b : List ℕ) → written b 0 [] ≡ b
  unfolding written
  written_none b = take-append-drop 0 b

  pub lines_start : (b : List ℕ) → b ≡ written b 0 (lines_bytes es l 0)
  unfolding file_bytes tab
  lines_start b = sym (written_none b)

  pub lines_step : (b c d : List ℕ) (i at n : ℕ) → i < n → length (lines_bytes es l n) ≤ length b → at ≡ length (lines_bytes es l i) →
      c ≡ written b 0 (lines_bytes es l i) → d ≡ written c at (line_bytes es (get_or l.subj i 0) (get_or l.pred i 0) (get_or l.obj i 0)) → d ≡ written b 0 (lines_bytes es l (i + 1))
  lines_step b c d i at n h fits ea ec ed =
      let k = line-fits i n h in
      let z : 0 + at ≡ at = omega arith in
      written_both b c d 0 at (lines_bytes es l i) (line i) (sym ea) (omega arith) ec (rw z ed)
      ∙ rw (add-one i) (ap (written b 0) (sym (next-lines i)))

-- ---- 39

module _ (es : List Entry) (l : Lanes) (ds : List Check) where
  pub rows_pass : (i n : ℕ) → ((k : ℕ) → i ≤ k → k < i + n → is_unwritable es (row_at l k) ≡ false) → first (rows_writable es l i n ++ ds) ≡ first ds
  unfolding rows_writable
  rows_pass i zero h = refl
  rows_pass i (suc n) h =
      first_passes (is_unwritable es (row_at l i)) 39 i (rows_writable es l (suc i) n ++ ds) (h i (omega arith) (omega arith))
      ∙ rows_pass (suc i) n (λ k p q. h k (omega arith) (omega arith))

  rows-stop : (d i n : ℕ) → d < n → ((k : ℕ) → i ≤ k → k < i + d → is_unwritable es (row_at l k) ≡ false) → is_unwritable es (row_at l (i + d)) ≡ true →
      first (rows_writable es l i n ++ ds) ≡ verdict 39 (i + d)
  unfolding rows_writable
  rows-stop d i zero h pass stop = absurd (omega arith)
  rows-stop zero i (suc n) h pass stop =
      let e : i + 0 ≡ i = omega arith in
      first_holds (is_unwritable es (row_at l i)) 39 i (rows_writable es l (suc i) n ++ ds) (rw e at stop) ∙ ap (verdict 39) (sym e)
  rows-stop (suc d) i (suc n) h pass stop =
      let e : i + suc d ≡ suc i + d = omega arith in
      first_passes (is_unwritable es (row_at l i)) 39 i (rows_writable es l (suc i) n ++ ds) (pass i (omega arith) (omega arith))
      ∙ rows-stop d (suc i) n (omega arith) (λ k p q. pass k (omega arith) (omega arith)) (rw e at stop)
      ∙ ap (verdict 39) (sym e)

  module _ (count r : ℕ) (low : Lowest es l count r) where
    pub lowest_stops : r < count → first (rows_writable es l 0 count ++ ds) ≡ verdict 39 r
    lowest_stops h =
        let e : 0 + r ≡ r = omega arith in
        rows-stop r 0 count h (λ k p q. low.passed k (omega arith)) (rw e (low.stops h)) ∙ ap (verdict 39) e

    pub lowest_passes : count ≤ r → first (rows_writable es l 0 count ++ ds) ≡ first ds
    lowest_passes h = let w = low.within in rows_pass 0 count (λ k p q. low.passed k (omega arith))
