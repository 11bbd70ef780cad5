-- Writing is canonical (T3): a legal text is read as it is written, so each line is read to the row's triple. Assumes nothing.
use mathlib.Core.Path.{◌≡◌, refl, sym, ap, subst, ◌∙◌}
use mathlib.Core.Bool.{Bool, true, false, not, ◌&&◌}
use mathlib.Core.List.{List, [], ◌∷◌, ◌++◌, append_assoc, append-nil}
use Prim.Native.Nat.{ℕ, zero, suc, ◌+◌, ◌≤◌, ◌<◌}
use native.Mathlib.Omega.{arith}
use lib.ListN.{length, length-append}
use lib.Dec.{eqb}
use borrow.Author.Tests.{eqb-true, eqb-false, not-false}
use Rattle.ground.proofs.Bools.{neither}
use Rattle.ground.specs.Lists.{tab}
use Rattle.utf8.specs.Characters.{one_octet, char_bytes, text_bytes}
use Rattle.utf8.specs.Texts.{chars_of, AllCharacters}
use Rattle.utf8.proofs.Texts.{text_of-chars}
use Rattle.ntline.specs.Grammar as grammar
use Rattle.ntline.specs.Lines.{Source, source_of}
use Rattle.ntline.proofs.Sound.{TermThere, term-there}
use Rattle.ntline.proofs.Encoded.{all_append, white_all, object-all}
use Rattle.term.specs.Refusal.{Check, done, first}
use Rattle.term.specs.declared.refusal.Verdict.{Verdict}
use Rattle.term.specs.Term.{sort_of}
use Rattle.term.proofs.Firsts.{Numbered, first-left, first_done, first-clear, first-split}
use Rattle.table.specs.Rows.{Row, Lanes, row_at, rows_of}
use Rattle.table.specs.Checks.{table_checks}
use Rattle.table.specs.Sound.{Sound, LegalRow}
use Rattle.table.proofs.Judging.{table-numbered}
use Rattle.table.proofs.Soundness.{passes-sound}
use Rattle.names.specs.Names.{Entry, NameLanes, entries_of, text_of}
use Rattle.names.proofs.Same.{both_true}
use Rattle.ntwrite.specs.Written.{marked, term_bytes, part_bytes, line_bytes}
use Rattle.nttext.specs.Texts.{text_of_term, sort_of_term, is_legal_text}
use Rattle.nttext.proofs.Canonical.{text-append}
use Rattle.nttext.proofs.LegalTexts.{legal-read, sort-few}
use Rattle.ntread.specs.Reading.{LineAt, line_at, lines_from}
use Rattle.ntriples.specs.Writing.{has_text, is_unwritable, rows_writable, file_bytes, write_checks}
use Rattle.ntnumber.proofs.Numbers.{meant_sort}
use Rattle.ntriples.specs.Shown.{meant_of, meant_term, triple_of, triple_said, canonical_term, canonical_line, LinesMean, ended, T3}
use Rattle.ntriples.proofs.Eols.{NoEol, no_eol_append, object-text, marked-no_eol}
use Rattle.ntriples.proofs.Lined.{line_first}

-- ---- a legal text

-- a text as the grammar reads it, behind its marks
pub record Heard (sort : ℕ) (text : List ℕ) : Type 0 where
  pub term : grammar.Term
  pub sort_is : sort_of_term term ≡ sort
  pub text_is : text_of_term term ≡ text
  pub space : List ℕ
  pub white : grammar.White space
  pub object : List ℕ
  pub has : grammar.Object object term
  pub bytes : marked sort text ≡ text_bytes (space ++ object)
  pub subject : sort ≤ 1 → grammar.Subject object term
  pub predicate : sort ≡ 0 → grammar.Predicate object term

pub legal-heard : (sort : ℕ) (text : List ℕ) → is_legal_text sort text ≡ true → Heard sort text
legal-heard sort text h =
    let cs : List ℕ = chars_of (marked sort text) in
    let S : Source = source_of cs in
    let read = legal-read sort text h in
    let t : TermThere cs S = term-there cs read.is_term in
    let parts : cs ≡ t.space ++ t.object
    = t.parts ∙ ap (λ (l : List ℕ). t.space ++ (t.object ++ l)) read.whole ∙ ap (λ (l : List ℕ). t.space ++ l) (append-nil t.object) in
    let all : AllCharacters cs = subst AllCharacters (sym parts) (all_append t.space t.object (white_all t.white) (object-all t.has)) in
    record {
      term = t.term;
      sort_is = ap sort_of_term (sym t.meant) ∙ meant_sort S read.is_term ∙ read.sort_is;
      text_is = ap text_of_term (sym t.meant) ∙ read.text_is;
      space = t.space;
      white = t.white;
      object = t.object;
      has = t.has;
      bytes = sym (text_of-chars (marked sort text) all) ∙ ap text_bytes parts;
      subject = λ k. t.subject (omega (arith, read.sort_is));
      predicate = λ k. t.predicate (read.sort_is ∙ k);
    }

-- ---- a row's line

text-blank : (xs : List ℕ) → text_bytes (0x20 ∷ xs) ≡ (32 ∷ []) ++ text_bytes xs
unfolding text_bytes char_bytes one_octet
text-blank xs = refl

text-dot : text_bytes (0x20 ∷ 0x2E ∷ []) ≡ 32 ∷ 46 ∷ []
unfolding text_bytes char_bytes one_octet
text-dot = refl

blank-white : (xs : List ℕ) → grammar.White xs → grammar.White (0x20 ∷ xs)
unfolding Rattle.ntline.specs.Classes.is_white_lem
blank-white xs w = grammar.White.more refl w

-- a line without its LF
abbrev body : List Entry → Row → List ℕ
body es r = part_bytes es r.s ++ part_bytes es r.p ++ part_bytes es r.o ++ (46 ∷ [])

-- a row that can be written
pub record Worded (es : List Entry) (r : Row) : Type 0 where
  pub s : Heard (sort_of r.s) (text_of es r.s)
  pub p : Heard (sort_of r.p) (text_of es r.p)
  pub o : Heard (sort_of r.o) (text_of es r.o)
  pub subject : sort_of r.s ≤ 1
  pub predicate : sort_of r.p ≡ 0

module _ (es : List Entry) (r : Row) (w : Worded es r) where
  abbrev chars : List ℕ
  chars =
      w.s.space
      ++ (w.s.object
      ++ ((0x20 ∷ w.p.space) ++ (w.p.object ++ ((0x20 ∷ w.o.space) ++ (w.o.object ++ ((0x20 ∷ []) ++ (0x2E ∷ ([] ++ []))))))))

  says_row : grammar.Says chars (grammar.Said.says w.s.term w.p.term w.o.term)
  says_row =
      grammar.Says.triple_line
      (grammar.Triple.triple w.s.white (w.s.subject w.subject) (blank-white _ w.p.white) (w.p.predicate w.predicate) (blank-white _ w.o.white) w.o.has
      (blank-white _ grammar.White.none) grammar.White.none grammar.Comment.none refl)

  regroup : (a b c d e f g : List ℕ) → a ++ (b ++ (c ++ (d ++ (e ++ (f ++ g))))) ≡ (a ++ b) ++ (c ++ d) ++ (e ++ f) ++ g
  regroup a b c d e f g = simp append_assoc

  -- the bytes of a term and a blank in front
  behind-blank : (sort : ℕ) (text space object : List ℕ) → marked sort text ≡ text_bytes (space ++ object) → text_bytes ((0x20 ∷ space) ++ object) ≡ (32 ∷ []) ++ marked sort text
  behind-blank sort text space object e = text-blank (space ++ object) ∙ ap (λ (l : List ℕ). (32 ∷ []) ++ l) (sym e)

  shape : (a b c : List ℕ) → a ++ ((32 ∷ []) ++ b) ++ ((32 ∷ []) ++ c) ++ (32 ∷ 46 ∷ []) ≡ (a ++ (32 ∷ [])) ++ (b ++ (32 ∷ [])) ++ (c ++ (32 ∷ [])) ++ (46 ∷ [])
  shape a b c = simp append_assoc

  encoded : body es r ≡ text_bytes chars
  encoded =
      let g : text_bytes chars ≡ text_bytes ((w.s.space ++ w.s.object) ++ ((0x20 ∷ w.p.space) ++ w.p.object) ++ ((0x20 ∷ w.o.space) ++ w.o.object) ++ (0x20 ∷ 0x2E ∷ []))
      = ap text_bytes (regroup w.s.space w.s.object (0x20 ∷ w.p.space) w.p.object (0x20 ∷ w.o.space) w.o.object (0x20 ∷ 0x2E ∷ [])) in
      let x : List ℕ = w.s.space ++ w.s.object in
      let y : List ℕ = (0x20 ∷ w.p.space) ++ w.p.object in
      let z : List ℕ = (0x20 ∷ w.o.space) ++ w.o.object in
      let split : text_bytes (x ++ y ++ z ++ (0x20 ∷ 0x2E ∷ [])) ≡ text_bytes x ++ text_bytes y ++ text_bytes z ++ (32 ∷ 46 ∷ [])
      = text-append (x ++ y ++ z) (0x20 ∷ 0x2E ∷ [])
      ∙ ap (λ (l : List ℕ). text_bytes (x ++ y ++ z) ++ l) text-dot
      ∙ ap (λ (l : List ℕ). l ++ (32 ∷ 46 ∷ [])) (text-append (x ++ y) z ∙ ap (λ (l : List ℕ). l ++ text_bytes z) (text-append x y)) in
      let ey = behind-blank (sort_of r.p) (text_of es r.p) w.p.space w.p.object w.p.bytes in
      let ez = behind-blank (sort_of r.o) (text_of es r.o) w.o.space w.o.object w.o.bytes in
      sym
      (g ∙ split
      ∙ ap (λ (l : List ℕ). l ++ text_bytes y ++ text_bytes z ++ (32 ∷ 46 ∷ [])) (sym w.s.bytes)
      ∙ ap (λ (l : List ℕ). term_bytes es r.s ++ l ++ text_bytes z ++ (32 ∷ 46 ∷ [])) ey
      ∙ ap (λ (l : List ℕ). term_bytes es r.s ++ ((32 ∷ []) ++ term_bytes es r.p) ++ l ++ (32 ∷ 46 ∷ [])) ez
      ∙ shape (term_bytes es r.s) (term_bytes es r.p) (term_bytes es r.o))

  pub row-says : grammar.LineSays (body es r) (grammar.Said.says w.s.term w.p.term w.o.term)
  row-says = record { line = chars; encoded = encoded; says = says_row }

  term_is : (n : ℕ) (h : Heard (sort_of n) (text_of es n)) → canonical_term h.term ≡ term_bytes es n
  term_is n h = ap (λ (k : ℕ). marked k (text_of_term h.term)) h.sort_is ∙ ap (marked (sort_of n)) h.text_is

  flat : (a b c : List ℕ) → (a ++ (32 ∷ [])) ++ (b ++ (32 ∷ [])) ++ (c ++ (32 ∷ [])) ++ (46 ∷ []) ≡ a ++ (32 ∷ []) ++ b ++ (32 ∷ []) ++ c ++ (32 ∷ []) ++ (46 ∷ [])
  flat a b c = simp append_assoc

  pub row-canonical : body es r ≡ canonical_line w.s.term w.p.term w.o.term
  row-canonical =
      flat (term_bytes es r.s) (term_bytes es r.p) (term_bytes es r.o)
      ∙ rw (← term_is r.s w.s, ← term_is r.p w.p, ← term_is r.o w.o) refl

  meant_is : (n : ℕ) (h : Heard (sort_of n) (text_of es n)) → meant_term h.term ≡ meant_of es n
  meant_is n h = rw (h.sort_is, h.text_is) refl

  pub row-means : triple_said w.s.term w.p.term w.o.term ≡ triple_of es r
  row-means = rw (meant_is r.s w.s, meant_is r.p w.p, meant_is r.o w.o) refl

  part-no_eol : (n : ℕ) → Heard (sort_of n) (text_of es n) → NoEol (part_bytes es n)
  part-no_eol n h =
      no_eol_append (term_bytes es n) (32 ∷ []) (marked-no_eol (sort_of n) (text_of es n) (rw h.text_is at (object-text h.has))) (refl, tt)

  pub row-no_eol : NoEol (body es r)
  row-no_eol =
      no_eol_append (part_bytes es r.s ++ part_bytes es r.p ++ part_bytes es r.o) (46 ∷ [])
      (no_eol_append (part_bytes es r.s ++ part_bytes es r.p) (part_bytes es r.o)
      (no_eol_append (part_bytes es r.s) (part_bytes es r.p) (part-no_eol r.s w.s) (part-no_eol r.p w.p)) (part-no_eol r.o w.o))
      (refl, tt)

  pub row-some : 1 ≤ length (body es r)
  row-some = omega (arith, length-append (part_bytes es r.s ++ part_bytes es r.p ++ part_bytes es r.o) (46 ∷ []))

  pub row_line : (rest : List ℕ) → line_bytes es r.s r.p r.o ++ rest ≡ body es r ++ (10 ∷ rest)
  row_line rest = ends (part_bytes es r.s ++ part_bytes es r.p ++ part_bytes es r.o) rest
    where
      ends : (a rest : List ℕ) → a ++ (46 ∷ 10 ∷ []) ++ rest ≡ a ++ (46 ∷ []) ++ (10 ∷ rest)
      ends a rest = simp append_assoc

-- ---- all rows

abbrev pub AllWorded : List Entry → List Row → Type 0
AllWorded es [] = Unit {0}
AllWorded es (r ∷ rs) = Worded es r × AllWorded es rs

no_lines : (es : List Entry) (at : ℕ) → LinesMean es (lines_from at []) [] × ([] ≡ ended (lines_from at []))
unfolding lines_from
no_lines es at = (LinesMean.none, refl)

pub lines_of : (es : List Entry) (rs : List Row) (at : ℕ) → AllWorded es rs →
    LinesMean es (lines_from at (file_bytes es rs)) rs × (file_bytes es rs ≡ ended (lines_from at (file_bytes es rs)))
unfolding file_bytes
lines_of es [] at h = no_lines es at
lines_of es (r ∷ rs) at h =
    let w = h.0 in
    let rest : List ℕ = file_bytes es rs in
    let next : ℕ = length (body es r) + suc at in
    let is : lines_from at (line_bytes es r.s r.p r.o ++ rest) ≡ line_at at (body es r) ∷ lines_from next rest
    = ap (lines_from at) (row_line es r w rest) ∙ line_first (body es r) rest at (row-no_eol es r w) (row-some es r w) in
    let again = lines_of es rs next h.1 in (
      subst (λ (ls : List LineAt). LinesMean es ls (r ∷ rs)) (sym is)
          (LinesMean.more w.s.term w.p.term w.o.term (row-canonical es r w) (row-says es r w) (row-means es r w) again.0),
      row_line es r w rest ∙ ap (λ (l : List ℕ). body es r ++ (10 ∷ l)) again.1 ∙ ap ended (sym is),
    )

-- ---- a done writing

done-parts : (cs ds : List Check) → Numbered cs → first (cs ++ ds) ≡ done → (first cs ≡ done) × (first ds ≡ done)
done-parts cs ds n e =
    let z = first-left cs ds (ap (λ (v : Verdict). v.number) e) in
    (first_done cs n z, sym (first-clear cs ds n z) ∙ e)

rows_left : (es : List Entry) (l : Lanes) (i n : ℕ) (ds : List Check) → first (rows_writable es l i n ++ ds) ≡ done →
    ((k : ℕ) → i ≤ k → k < i + n → is_unwritable es (row_at l k) ≡ false) × (first ds ≡ done)
unfolding rows_writable
rows_left es l i zero ds e = (λ k p q. absurd (omega arith), e)
rows_left es l i (suc n) ds e =
    let a = first-split 39 i (is_unwritable es (row_at l i)) (rows_writable es l (suc i) n ++ ds) (omega arith) e in
    let b = rows_left es l (suc i) n ds a.1 in
    (λ k p q. which k p q (eqb i k) refl a.0 b.0, b.1)
  where
    which : (k : ℕ) → i ≤ k → k < i + suc n → (t : Bool) → eqb i k ≡ t → is_unwritable es (row_at l i) ≡ false →
        ((k : ℕ) → suc i ≤ k → k < suc i + n → is_unwritable es (row_at l k) ≡ false) → is_unwritable es (row_at l k) ≡ false
    which k p q true t here later = let f : i ≡ k = eqb-true i k t in rw f at here
    which k p q false t here later = let f = eqb-false i k t in later k (omega arith) (omega arith)

pub row-worded : (es : List Entry) (kind : ℕ) (r : Row) → LegalRow kind r → is_unwritable es r ≡ false → Worded es r
row-worded es kind r legal e =
    let a = neither (eqb (sort_of r.s) 2) (not (has_text es r.s && (has_text es r.p && has_text es r.o))) e in
    let b = both_true (has_text es r.s) (has_text es r.p && has_text es r.o) (not-false _ a.1) in
    let c = both_true (has_text es r.p) (has_text es r.o) b.1 in
    let zero-sort : sort_of r.p ≡ 0 = eqb-true (sort_of r.p) 0 legal.predicate in
    let heard = legal-heard (sort_of r.s) (text_of es r.s) b.0 in
    let s-low : sort_of r.s ≤ 2 = omega (arith, heard.sort_is, sort-few heard.term) in
    let no = eqb-false (sort_of r.s) 2 a.0 in
    record {
      s = heard;
      p = legal-heard (sort_of r.p) (text_of es r.p) c.0;
      o = legal-heard (sort_of r.o) (text_of es r.o) c.1;
      subject = omega (arith, s-low, no);
      predicate = zero-sort;
    }

tab-worded : (es : List Entry) (n : ℕ) (f : ℕ → Row) → ((i : ℕ) → i < n → Worded es (f i)) → AllWorded es (tab n f)
unfolding tab
tab-worded es zero f h = tt
tab-worded es (suc n) f h = (h zero (omega arith), tab-worded es n (λ i. f (suc i)) (λ i q. h (suc i) (omega arith)))

pub done-sound : (kind : ℕ) (l : Lanes) (count : ℕ) (n : NameLanes) (names : ℕ) (out : List ℕ) → first (write_checks kind l count n names out) ≡ done → Sound kind l count
done-sound kind l count n names out e = passes-sound kind l count (done-parts (table_checks kind l count) _ (table-numbered kind l count) e).0

pub done-worded : (kind : ℕ) (l : Lanes) (count : ℕ) (n : NameLanes) (names : ℕ) (out : List ℕ) → first (write_checks kind l count n names out) ≡ done →
    AllWorded (entries_of n names) (rows_of l count)
done-worded kind l count n names out e =
    let a = done-parts (table_checks kind l count) _ (table-numbered kind l count) e in
    let sound = done-sound kind l count n names out e in
    let b = first-split 11 0 _ _ (omega arith) a.1 in
    let c = first-split 14 0 _ _ (omega arith) b.1 in
    let d = rows_left (entries_of n names) l 0 count _ c.1 in
    tab-worded (entries_of n names) count (row_at l) (λ i q. row-worded (entries_of n names) kind (row_at l i) (sound.legal i q) (d.0 i (omega arith) (omega arith)))

pub writing_canonical : T3
writing_canonical kind l count n names out e =
    let both = lines_of (entries_of n names) (rows_of l count) 0 (done-worded kind l count n names out e) in
    record { lines_mean = both.0; all_lines = both.1 }
