-- What reading gave can be written (T5): its list holds a legal text for every number of its rows, and no subject is a literal.
-- Assumes nothing.
use mathlib.Core.Path.{◌≡◌, refl, sym, ap, subst, ◌∙◌}
use mathlib.Core.Bool.{Bool, true, false, not, ◌&&◌, ◌||◌}
use mathlib.Core.List.{List, [], ◌∷◌, ◌++◌, map, append_assoc}
use mathlib.Core.Logic.{◌⊎◌, inl, inr}
use Prim.Native.Nat.{ℕ, zero, suc, ◌+◌, ◌-◌, ◌≤◌, ◌<◌}
use native.Mathlib.Omega.{arith}
use lib.ListN.{length, get_or, take, replicate, length-append, length-replicate}
use lib.Seq.{slice, take_at}
use lib.Dec.{eqb, ltb}
use borrow.Author.Tests.{ne_eqb, le-leb, le-ltb, ltb-true}
use Rattle.ground.specs.Lists.{tab}
use Rattle.ground.proofs.Tab.{tab-ext}
use Rattle.term.specs.Refusal.{Check, refuse, verdict, done, first}
use Rattle.term.specs.declared.refusal.Verdict.{Verdict}
use Rattle.term.specs.Term.{sort_of}
use Rattle.term.proofs.Firsts.{first-none, first-clear, first_holds, first_passes, first-split}
use Rattle.annotation.specs.Kinds.{annotation_checks}
use Rattle.annotation.proofs.Judged.{passes-kind}
use Rattle.table.specs.Rows.{Row, Lanes, row_at, rows_of, filled}
use Rattle.table.specs.Checks.{is_unfit, table_checks}
use Rattle.table.proofs.Judging.{table-numbered}
use Rattle.table.proofs.Soundness.{sound-passes}
use Rattle.table.proofs.Laid.{filled-rows}
use Rattle.names.specs.Names.{Entry, entry, NameLanes, start_of, text_at_lem, entry_at, entries_of, text_of, is_unfit_list}
use Rattle.names.specs.Entering.{bytes_of}
use Rattle.ntline.specs.Grammar as grammar
use Rattle.nttext.specs.Texts.{text_of_term, sort_of_term, is_legal_text}
use Rattle.nttext.proofs.LegalTexts.{text-legal}
use Rattle.ntenter.specs.Line.{room_of}
use Rattle.ntread.specs.Reading.{LineAt, lines_from, read_file, ends_from, texts_of, filled_names}
use Rattle.ntriples.specs.Writing.{has_text, is_unwritable, rows_writable, file_bytes, write_checks}
use Rattle.ntriples.specs.Shown.{Triple, triple_of, triple_said, InRows, InLines, lines_checks, T5}
use Rattle.ntriples.proofs.Rows.{rows_pass}
use Rattle.ntriples.proofs.Writes.{list_fit}
use Rattle.ntriples.proofs.ReadingMeansLines.{Sayable, says-sayable}
use Rattle.ntriples.proofs.ReadingMeans.{held, leaves_sound, reading-means, reading-refusals}

-- ---- the list that a reading leaves holds its entries

abbrev none : Entry
none = entry 0 []

ends_at : (es : List Entry) (at i : ℕ) (zs : List ℕ) → i < length es → get_or (ends_from at es ++ zs) i 0 ≡ at + bytes_of (take (suc i) es)
unfolding ends_from bytes_of
ends_at [] at i zs h = absurd (omega arith)
ends_at (e ∷ es) at zero zs h = omega arith
ends_at (e ∷ es) at (suc i) zs h = ends_at es (at + length e.text) i zs (omega arith) ∙ omega arith

start_at : (es : List Entry) (i : ℕ) (zs : List ℕ) → i ≤ length es → start_of (ends_from 0 es ++ zs) i ≡ bytes_of (take i es)
unfolding start_of bytes_of
start_at es zero zs h = refl
start_at es (suc i) zs h = ends_at es 0 i zs (omega arith) ∙ omega arith

bytes-step : (es : List Entry) (i : ℕ) → i < length es → bytes_of (take (suc i) es) ≡ bytes_of (take i es) + length (get_or es i none).text
unfolding bytes_of
bytes-step [] i h = absurd (omega arith)
bytes-step (e ∷ es) zero h = omega arith
bytes-step (e ∷ es) (suc i) h = let b = bytes-step es i (omega arith) in omega arith

bytes_most : (es : List Entry) (i : ℕ) → bytes_of (take i es) ≤ bytes_of es
unfolding bytes_of
bytes_most [] zero = omega arith
bytes_most [] (suc i) = omega arith
bytes_most (e ∷ es) zero = omega arith
bytes_most (e ∷ es) (suc i) = let b = bytes_most es i in omega arith

slice_past : (a xs : List ℕ) (f t : ℕ) → slice (length a + f) (length a + t) (a ++ xs) ≡ slice f t xs
slice_past [] xs f t =
    let ef : 0 + f ≡ f = omega arith in
    let et : 0 + t ≡ t = omega arith in
    rw (ef, et) refl
slice_past (x ∷ a) xs f t =
    let ef : suc (length a) + f ≡ suc (length a + f) = omega arith in
    let et : suc (length a) + t ≡ suc (length a + t) = omega arith in
    rw (ef, et) (slice_past a xs f t)

text_at : (es : List Entry) (i : ℕ) (ws : List ℕ) → i < length es → slice (bytes_of (take i es)) (bytes_of (take (suc i) es)) (texts_of es ++ ws) ≡ (get_or es i none).text
unfolding texts_of bytes_of
text_at [] i ws h = absurd (omega arith)
text_at (e ∷ es) zero ws h =
    ap (take (length e.text + 0)) (append_assoc e.text (texts_of es) ws) ∙ take_at e.text (texts_of es ++ ws) (length e.text + 0) (omega arith)
text_at (e ∷ es) (suc i) ws h =
    ap (slice (length e.text + bytes_of (take i es)) (length e.text + bytes_of (take (suc i) es))) (append_assoc e.text (texts_of es) ws)
    ∙ slice_past e.text (texts_of es ++ ws) (bytes_of (take i es)) (bytes_of (take (suc i) es))
    ∙ text_at es i ws (omega arith)

text-there : (ends text : List ℕ) (i f t : ℕ) → start_of ends i ≡ f → get_or ends i 0 ≡ t → f ≤ t → t ≤ length text → text_at_lem ends text i ≡ slice f t text
unfolding text_at_lem
text-there ends text i f t ef et rise in-text = rw (ef, et, le-leb f t rise, le-leb t (length text) in-text) refl

number_at : (es : List Entry) (i : ℕ) (zs : List ℕ) → i < length es → get_or (map (λ (e : Entry). e.number) es ++ zs) i 0 ≡ (get_or es i none).number
number_at [] i zs h = absurd (omega arith)
number_at (e ∷ es) zero zs h = refl
number_at (e ∷ es) (suc i) zs h = number_at es i zs (omega arith)

tab-get : (es : List Entry) → tab (length es) (λ i. get_or es i none) ≡ es
unfolding tab
tab-get [] = refl
tab-get (e ∷ es) = ap (λ (l : List Entry). e ∷ l) (tab-get es)

length-texts : (es : List Entry) → length (texts_of es) ≡ bytes_of es
unfolding texts_of bytes_of
length-texts [] = refl
length-texts (e ∷ es) = length-append e.text (texts_of es) ∙ ap (λ (k : ℕ). length e.text + k) (length-texts es)

length-ends : (es : List Entry) (at : ℕ) → length (ends_from at es) ≡ length es
unfolding ends_from
length-ends [] at = refl
length-ends (e ∷ es) at = ap suc (length-ends es (at + length e.text))

length-numbers : (es : List Entry) → length (map (λ (e : Entry). e.number) es) ≡ length es
length-numbers [] = refl
length-numbers (e ∷ es) = ap suc (length-numbers es)

filled-long : (xs : List ℕ) (k m : ℕ) → length xs ≡ k → k ≤ m → length (xs ++ replicate (m - k) 0) ≡ m
filled-long xs k m e h = omega (arith, length-append xs (replicate (m - k) 0), length-replicate {A = ℕ} (m - k) 0)

module _ (es : List Entry) (n : NameLanes) (few : length es ≤ length n.terms) (short : bytes_of es ≤ length n.text) (equal : length n.ends ≡ length n.terms) where
  terms_long : length (filled_names es n).terms ≡ length n.terms
  terms_long = filled-long (map (λ (e : Entry). e.number) es) (length es) (length n.terms) (length-numbers es) few

  ends-long : length (filled_names es n).ends ≡ length n.ends
  ends-long = filled-long (ends_from 0 es) (length es) (length n.ends) (length-ends es 0) (omega arith)

  text-long : length (filled_names es n).text ≡ length n.text
  text-long = filled-long (texts_of es) (bytes_of es) (length n.text) (length-texts es) short

  entry-at : (i : ℕ) → i < length es → entry_at (filled_names es n) i ≡ get_or es i none
  entry-at i h =
      let ends : List ℕ = (filled_names es n).ends in
      let text : List ℕ = (filled_names es n).text in
      let from = bytes_of (take i es) in
      let to = bytes_of (take (suc i) es) in
      let start : start_of ends i ≡ from = start_at es i (replicate (length n.ends - length es) 0) (omega arith) in
      let end : get_or ends i 0 ≡ to = ends_at es 0 i (replicate (length n.ends - length es) 0) h ∙ omega arith in
      let a : get_or (filled_names es n).terms i 0 ≡ (get_or es i none).number = number_at es i (replicate (length n.terms - length es) 0) h in
      let b : text_at_lem ends text i ≡ (get_or es i none).text
      = text-there ends text i from to start end (omega (arith, bytes-step es i h)) (omega (arith, text-long, bytes_most es (suc i)))
      ∙ text_at es i (replicate (length n.text - bytes_of es) 0) h in
      λ j. entry (a j) (b j)

  pub entries_are : entries_of (filled_names es n) (length es) ≡ es
  entries_are = tab-ext (length es) (entry_at (filled_names es n)) (λ i. get_or es i none) (λ i h. entry-at i h) ∙ tab-get es

  pub still-fit : is_unfit_list n ≡ false → is_unfit_list (filled_names es n) ≡ false
  still-fit u = rw (terms_long, ends-long, text-long) u

-- ---- the rows of a reading can be written

record SaidOf (m : Triple) : Type 0 where
  s : grammar.Term
  p : grammar.Term
  o : grammar.Term
  can : Sayable s p o
  is : triple_said s p o ≡ m

said_of : {m : Triple} {ls : List LineAt} → InLines m ls → SaidOf m
said_of (InLines.here {s = s} {p = p} {o = o} d e) = record { s = s; p = p; o = o; can = says-sayable d.says; is = e }
said_of (InLines.later i) = said_of i

all_have : (w a b c : Bool) → w ≡ false → a ≡ true → b ≡ true → c ≡ true → (w || not (a && (b && c))) ≡ false
all_have w a b c ew ea eb ec = rw (ew, ea, eb, ec) refl

term-text : (es : List Entry) (n : ℕ) (t : grammar.Term) → (source : List ℕ) × grammar.Object source t → sort_of_term t ≡ sort_of n → text_of_term t ≡ text_of es n → has_text es n ≡ true
term-text es n t has es-sort es-text =
    ap (λ (k : ℕ). is_legal_text k (text_of es n)) (sym es-sort) ∙ ap (is_legal_text (sort_of_term t)) (sym es-text) ∙ text-legal has.1

said-writable : (es : List Entry) (r : Row) → SaidOf (triple_of es r) → is_unwritable es r ≡ false
said-writable es r w =
    let e = w.is in
    let c = w.can in
    let sort : sort_of_term w.s ≡ sort_of r.s = ap (λ (t : Triple). t.s.sort) e in
    all_have (eqb (sort_of r.s) 2) (has_text es r.s) (has_text es r.p) (has_text es r.o)
    (ne_eqb (sort_of r.s) 2 (λ z. omega (arith, sort, c.subject)))
    (term-text es r.s w.s c.has-s sort (ap (λ (t : Triple). t.s.text) e))
    (term-text es r.p w.p c.has_p (ap (λ (t : Triple). t.p.sort) e) (ap (λ (t : Triple). t.p.text) e))
    (term-text es r.o w.o c.has-o (ap (λ (t : Triple). t.o.sort) e) (ap (λ (t : Triple). t.o.text) e))

in_tab : (es : List Entry) (n : ℕ) (f : ℕ → Row) (k : ℕ) → k < n → InRows es (triple_of es (f k)) (tab n f)
unfolding tab
in_tab es zero f k h = absurd (omega arith)
in_tab es (suc n) f zero h = InRows.here refl
in_tab es (suc n) f (suc k) h = InRows.later (in_tab es n (λ i. f (suc i)) k (omega arith))

-- ---- the lent lanes of a done reading

or_false : (a b : Bool) → (a || b) ≡ false → b ≡ false
or_false true b e = absurd (let z : ◌≡◌ {A = ℕ} 0 1 = cc in omega arith)
or_false false b e = e

list_fits : (kind a : ℕ) (file : List ℕ) (l : Lanes) (n : NameLanes) → (read_file kind a file l n).verdict_of ≡ done → is_unfit_list n ≡ false
list_fits kind a file l n d =
    let e = sym (reading-refusals kind a file l n) ∙ d in
    let k = passes-kind kind 0 (refuse (is_unfit l || is_unfit_list n) 11 0 ∷ refuse (ltb 65535 (length file)) 13 0 ∷ (annotation_checks kind a 0 ++ lines_checks (room_of l n) [] (lines_from 0 file))) e in
    or_false (is_unfit l) (is_unfit_list n) (first-split 11 0 (is_unfit l || is_unfit_list n) _ (omega arith) k.1).0

module _ (kind a : ℕ) (file : List ℕ) (l : Lanes) (n : NameLanes) (out : List ℕ) (d : (read_file kind a file l n).verdict_of ≡ done) where
  abbrev es : List Entry
  es = (read_file kind a file l n).entries

  abbrev rows : List Row
  rows = (read_file kind a file l n).rows

  abbrev table : Lanes
  table = filled (read_file kind a file l n).rows l

  abbrev list : NameLanes
  list = filled_names (read_file kind a file l n).entries n

  few : length es ≤ length n.terms
  few = (held kind a file l n d).kept.few

  short : bytes_of es ≤ length n.text
  short = (held kind a file l n d).kept.short

  equal : length n.ends ≡ length n.terms
  equal = (list_fit n (list_fits kind a file l n d)).equal

  entries-same : entries_of list (length es) ≡ es
  entries-same = entries_are es n few short equal

  rows_same : rows_of table (length rows) ≡ rows
  rows_same = filled-rows rows l

  bytes_same : file_bytes (entries_of list (length es)) (rows_of table (length rows)) ≡ file_bytes es rows
  bytes_same = ap (λ (x : List Entry). file_bytes x (rows_of table (length rows))) entries-same ∙ ap (file_bytes es) rows_same

  writable : (k : ℕ) → k < length rows → is_unwritable es (row_at table k) ≡ false
  writable k h =
      said-writable es (row_at table k)
      (said_of
      (((reading-means kind a file l n d).means (triple_of es (row_at table k))).0
      (subst (λ (x : List Row). InRows es (triple_of es (row_at table k)) x) rows_same (in_tab es (length rows) (row_at table) k h))))

  abbrev room : List Check
  room = refuse (ltb (length out) (length (file_bytes (entries_of list (length es)) (rows_of table (length rows))))) 12 0 ∷ []

  only-room : first (write_checks kind table (length rows) list (length es) out) ≡ first room
  only-room =
      first-clear (table_checks kind table (length rows))
      (refuse (is_unfit_list list) 11 0 ∷ refuse (ltb (length list.terms) (length es)) 14 0 ∷ (rows_writable (entries_of list (length es)) table 0 (length rows) ++ room))
      (table-numbered kind table (length rows)) (ap (λ (v : Verdict). v.number) (sound-passes kind table (length rows) (leaves_sound kind a file l n d)))
      ∙ first_passes (is_unfit_list list) 11 0 (refuse (ltb (length list.terms) (length es)) 14 0 ∷ (rows_writable (entries_of list (length es)) table 0 (length rows) ++ room))
      (still-fit es n few short equal (list_fits kind a file l n d))
      ∙ first_passes (ltb (length list.terms) (length es)) 14 0 (rows_writable (entries_of list (length es)) table 0 (length rows) ++ room)
      (le-ltb (length list.terms) (length es) (omega (arith, terms_long es n few short equal, few)))
      ∙ rows_pass (entries_of list (length es)) table room 0 (length rows)
      (λ k p q. subst (λ (x : List Entry). is_unwritable x (row_at table k) ≡ false) (sym entries-same) (writable k (omega arith)))

  by_room : (b : Bool) → ltb (length out) (length (file_bytes (entries_of list (length es)) (rows_of table (length rows)))) ≡ b →
      (first (write_checks kind table (length rows) list (length es) out) ≡ done)
      ⊎ ((first (write_checks kind table (length rows) list (length es) out) ≡ verdict 12 0) × (length out < length (file_bytes es rows)))
  by_room true e =
      inr (
        only-room ∙ first_holds (ltb (length out) (length (file_bytes (entries_of list (length es)) (rows_of table (length rows))))) 12 0 [] e,
        omega (arith, ltb-true (length out) (length (file_bytes (entries_of list (length es)) (rows_of table (length rows)))) e, ap length bytes_same),
      )
  by_room false e = inl (only-room ∙ first_passes (ltb (length out) (length (file_bytes (entries_of list (length es)) (rows_of table (length rows))))) 12 0 [] e ∙ first-none)

pub read-is_written : T5
read-is_written kind a file l n out d = by_room kind a file l n out d _ refl
