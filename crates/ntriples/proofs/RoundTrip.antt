-- What was written is read back (T4): each line is heard as its row's triple, so the rooms decide alone, and the triples are the same.
-- Assumes nothing.
use mathlib.Core.Path.{◌≡◌, refl, sym, ap, subst, ◌∙◌}
use mathlib.Core.Bool.{Bool, true, false, not, cond, ◌&&◌, ◌||◌, true≢false}
use mathlib.Core.List.{List, [], ◌∷◌, ◌++◌, map, map-append, append_assoc, append-nil}
use mathlib.Core.Logic.{◌⊎◌, inl, inr}
use Prim.Native.Nat.{ℕ, suc, ◌≤◌, ◌<◌}
use native.Mathlib.Omega.{arith}
use lib.ListN.{length, length-append}
use lib.Dec.{leb, ltb}
use borrow.Author.Tests.{leb-true, le-leb, le-ltb}
use Rattle.ground.specs.Lists.{each}
use Rattle.ground.proofs.Each.{each_append}
use Rattle.term.specs.Refusal.{Check, refuse, done, first}
use Rattle.term.specs.declared.refusal.Verdict.{Verdict}
use Rattle.term.proofs.Firsts.{first-none, first_holds, first_passes}
use Rattle.annotation.specs.Kinds.{is_kind, is_legal, annotation_checks}
use Rattle.annotation.proofs.Judged.{kind-passes, annotation-passes}
use Rattle.table.specs.Rows.{Row, Lanes, key, rows_of}
use Rattle.table.specs.Checks.{is_unfit}
use Rattle.table.specs.Sound.{Over, Ascending}
use Rattle.table.proofs.Soundness.{sound-list}
use Rattle.names.specs.Names.{Entry, NameLanes, entries_of, is_unfit_list}
use Rattle.names.proofs.Same.{both_true}
use Rattle.ntline.specs.Grammar as grammar
use Rattle.ntline.specs.Lines.{Heard, heard}
use Rattle.ntline.proofs.Encoded.{line-heard, line-one}
use Rattle.ntenter.specs.Line.{Room, room_of}
use Rattle.ntread.specs.Reading.{LineAt, lines_from, lent_checks, read_file}
use Rattle.ntriples.specs.Writing.{file_bytes}
use Rattle.ntriples.specs.Shown.{Triple, meant_of, triple_of, triple_said, InRows, InLines, is_among, met_after, same_meant, same_triple, texts_in, different_texts, different_triples, bytes_in, texts_fit, rows_fit_lem, heard_in, is_wrong, triples_said, triples_in, line_checks, lines_checks, LinesMean, TermIn, TellsApart, T4}
use Rattle.ntriples.proofs.ReadingMeansMet.{In, in_either, in_one, met-append, met-grown}
use Rattle.ntriples.proofs.ReadingMeansTexts.{bytes-append}
use Rattle.ntriples.proofs.ReadingMeansHeld.{meant_tells}
use Rattle.ntriples.proofs.ReadingMeans.{reading-means, reading-refusals, count_of-triples}
use Rattle.ntriples.proofs.Canonical.{writing_canonical, done-sound}

-- ---- what the lines say

line-says : (h : Heard) (t : Triple) (s p o : grammar.Term) → h ≡ heard (grammar.Said.says s p o) → triple_said s p o ≡ t → (triples_said h ≡ t ∷ []) × (is_wrong h ≡ false)
line-says h t s p o e f = rw e (ap (λ (x : Triple). x ∷ []) f, refl)

said_same : (s p o x y z : grammar.Term) → grammar.Said.says s p o ≡ grammar.Said.says x y z → triple_said s p o ≡ triple_said x y z
said_same s p o x y z e =
    let a : s ≡ x = cc in
    let b : p ≡ y = cc in
    let c : o ≡ z = cc in
    rw (a, b, c) refl

module _ (es : List Entry) where
  pub triples-are : {ls : List LineAt} {rs : List Row} → LinesMean es ls rs → triples_in ls ≡ map (triple_of es) rs
  unfolding each
  triples-are LinesMean.none = refl
  triples-are (LinesMean.more {l = l} {ls = ls} {r = r} {rs = rs} s p o c d m more) =
      ap (λ (x : List Triple). x ++ triples_in ls) (line-says (heard_in l) (triple_of es r) s p o (line-heard d) m).0
      ∙ ap (λ (x : List Triple). triple_of es r ∷ x) (triples-are more)

  -- "M(T, L)" is the set of the triples of the lines
  rows-lines : {ls : List LineAt} {rs : List Row} → LinesMean es ls rs → (t : Triple) → InRows es t rs → InLines t ls
  rows-lines LinesMean.none t i = elim i [ ]
  rows-lines (LinesMean.more s p o c d m more) t (InRows.here e) = InLines.here d (m ∙ e)
  rows-lines (LinesMean.more s p o c d m more) t (InRows.later i) = InLines.later (rows-lines more t i)

  lines_rows : {ls : List LineAt} {rs : List Row} → LinesMean es ls rs → (t : Triple) → InLines t ls → InRows es t rs
  lines_rows LinesMean.none t i = elim i [ ]
  lines_rows (LinesMean.more s p o c d m more) t (InLines.here {s = x} {p = y} {o = z} f e) = InRows.here (sym m ∙ said_same s p o x y z (line-one d f) ∙ e)
  lines_rows (LinesMean.more s p o c d m more) t (InLines.later i) = InRows.later (lines_rows more t i)

-- ---- the rooms

module _ (room : Room) where
  texts_grow : (xs ys : List Triple) → (length (different_texts xs) ≤ length (different_texts (xs ++ ys))) × (bytes_in (different_texts xs) ≤ bytes_in (different_texts (xs ++ ys)))
  texts_grow xs ys =
      let g = met-grown same_meant (different_texts xs) (each texts_in ys) in
      let is : different_texts (xs ++ ys) ≡ different_texts xs ++ g.new
      = ap (met_after same_meant []) (each_append texts_in xs ys) ∙ met-append same_meant [] (each texts_in xs) (each texts_in ys) ∙ g.is in
      (omega (arith, ap length is, length-append (different_texts xs) g.new), omega (arith, ap bytes_in is, bytes-append (different_texts xs) g.new))

  texts_front : (xs ys : List Triple) → texts_fit room (xs ++ ys) ≡ true → texts_fit room xs ≡ true
  texts_front xs ys h =
      let b = both_true (leb (length (different_texts (xs ++ ys))) room.entries) (leb (bytes_in (different_texts (xs ++ ys))) room.bytes) h in
      let p = leb-true (length (different_texts (xs ++ ys))) room.entries b.0 in
      let q = leb-true (bytes_in (different_texts (xs ++ ys))) room.bytes b.1 in
      let g = texts_grow xs ys in
      rw (le-leb (length (different_texts xs)) room.entries (omega (arith, g.0)), le-leb (bytes_in (different_texts xs)) room.bytes (omega (arith, g.1))) refl

  rows-front : (xs ys : List Triple) → rows_fit_lem room (xs ++ ys) ≡ true → rows_fit_lem room xs ≡ true
  rows-front xs ys h =
      let g = met-grown same_triple (different_triples xs) ys in
      let is : different_triples (xs ++ ys) ≡ different_triples xs ++ g.new = met-append same_triple [] xs ys ∙ g.is in
      let p = leb-true (length (different_triples (xs ++ ys))) room.rows h in
      le-leb (length (different_triples xs)) room.rows (omega (arith, ap length is, length-append (different_triples xs) g.new))

  abbrev fit : List Triple → Bool
  fit ts = texts_fit room ts && rows_fit_lem room ts

  abbrev Outcome : Verdict → List Triple → Type 0
  Outcome v all = ((v ≡ done) × (fit all ≡ true)) ⊎ ((v.number ≡ 27) ⊎ (v.number ≡ 12))

  nothing-fits : fit [] ≡ true
  unfolding met_after each bytes_in
  nothing-fits = rw (le-leb 0 room.entries (omega arith), le-leb 0 room.bytes (omega arith), le-leb 0 room.rows (omega arith)) refl

  -- a line that says a triple, with the triples up to it
  module _ (place : ℕ) (h : Heard) (before : List Triple) (t : Triple) (ls : List LineAt) (u : List Triple) (eu : u ≡ t ∷ []) (ew : is_wrong h ≡ false) where
    abbrev up_to : List Triple
    up_to = before ++ (t ∷ [])

    abbrev here : List Check
    here = line_checks room place h (before ++ u) ++ lines_checks room (before ++ u) ls

    not-wrong : first here ≡ first (refuse (not (texts_fit room up_to)) 27 place ∷ refuse (not (rows_fit_lem room up_to)) 12 place ∷ lines_checks room up_to ls)
    not-wrong =
        ap (λ (x : List Triple). first (line_checks room place h (before ++ x) ++ lines_checks room (before ++ x) ls)) eu
        ∙ first_passes (is_wrong h) 26 place (refuse (not (texts_fit room up_to)) 27 place ∷ refuse (not (rows_fit_lem room up_to)) 12 place ∷ lines_checks room up_to ls) ew

    line-unnamed : texts_fit room (before ++ (t ∷ [])) ≡ false → (first here).number ≡ 27
    line-unnamed ft =
        ap (λ (v : Verdict). v.number)
        (not-wrong ∙ first_holds (not (texts_fit room up_to)) 27 place (refuse (not (rows_fit_lem room up_to)) 12 place ∷ lines_checks room up_to ls) (ap not ft))

    line-named : texts_fit room (before ++ (t ∷ [])) ≡ true → first here ≡ first (refuse (not (rows_fit_lem room up_to)) 12 place ∷ lines_checks room up_to ls)
    line-named ft = not-wrong ∙ first_passes (not (texts_fit room up_to)) 27 place (refuse (not (rows_fit_lem room up_to)) 12 place ∷ lines_checks room up_to ls) (ap not ft)

    line-no_row : texts_fit room (before ++ (t ∷ [])) ≡ true → rows_fit_lem room (before ++ (t ∷ [])) ≡ false → (first here).number ≡ 12
    line-no_row ft fr =
        ap (λ (v : Verdict). v.number) (line-named ft ∙ first_holds (not (rows_fit_lem room up_to)) 12 place (lines_checks room up_to ls) (ap not fr))

    line-passes : texts_fit room (before ++ (t ∷ [])) ≡ true → rows_fit_lem room (before ++ (t ∷ [])) ≡ true → first here ≡ first (lines_checks room (before ++ (t ∷ [])) ls)
    line-passes ft fr = line-named ft ∙ first_passes (not (rows_fit_lem room up_to)) 12 place (lines_checks room up_to ls) (ap not fr)

  module _ (es : List Entry) where
    fits-done : {ls : List LineAt} {rs : List Row} → LinesMean es ls rs → (before : List Triple) →
        texts_fit room (before ++ map (triple_of es) rs) ≡ true → rows_fit_lem room (before ++ map (triple_of es) rs) ≡ true → first (lines_checks room before ls) ≡ done
    unfolding lines_checks
    fits-done LinesMean.none before ft fr = first-none
    fits-done (LinesMean.more {l = l} {ls = ls} {r = r} {rs = rs} s p o c d m more) before ft fr =
        let t : Triple = triple_of es r in
        let ts : List Triple = map (triple_of es) rs in
        let h = line-says (heard_in l) t s p o (line-heard d) m in
        let a : before ++ (t ∷ ts) ≡ (before ++ (t ∷ [])) ++ ts = sym (append_assoc before (t ∷ []) ts) in
        let gt : texts_fit room ((before ++ (t ∷ [])) ++ ts) ≡ true = subst (λ (x : List Triple). texts_fit room x ≡ true) a ft in
        let gr : rows_fit_lem room ((before ++ (t ∷ [])) ++ ts) ≡ true = subst (λ (x : List Triple). rows_fit_lem room x ≡ true) a fr in
        line-passes l.place (heard_in l) before t ls (triples_said (heard_in l)) h.0 h.1 (texts_front (before ++ (t ∷ [])) ts gt) (rows-front (before ++ (t ∷ [])) ts gr)
        ∙ fits-done more (before ++ (t ∷ [])) gt gr

    outcome : {ls : List LineAt} {rs : List Row} → LinesMean es ls rs → (before : List Triple) → fit before ≡ true →
        Outcome (first (lines_checks room before ls)) (before ++ map (triple_of es) rs)
    unfolding lines_checks
    outcome LinesMean.none before f = inl (first-none, subst (λ (x : List Triple). fit x ≡ true) (sym (append-nil before)) f)
    outcome (LinesMean.more {l = l} {ls = ls} {r = r} {rs = rs} s p o c d m more) before f =
        let h = line-says (heard_in l) (triple_of es r) s p o (line-heard d) m in
        which (texts_fit room (before ++ (triple_of es r ∷ []))) refl (rows_fit_lem room (before ++ (triple_of es r ∷ []))) refl h.0 h.1
        (λ g. outcome more (before ++ (triple_of es r ∷ [])) g)
      where
        on : (v w : Verdict) → v ≡ w → Outcome w ((before ++ (triple_of es r ∷ [])) ++ map (triple_of es) rs) → Outcome v (before ++ (triple_of es r ∷ map (triple_of es) rs))
        on v w e q = subst (λ (x : Verdict). Outcome x (before ++ (triple_of es r ∷ map (triple_of es) rs))) (sym e)
            (subst (λ (x : List Triple). Outcome w x) (append_assoc before (triple_of es r ∷ []) (map (triple_of es) rs)) q)

        which : (x : Bool) → texts_fit room (before ++ (triple_of es r ∷ [])) ≡ x → (y : Bool) → rows_fit_lem room (before ++ (triple_of es r ∷ [])) ≡ y →
            triples_said (heard_in l) ≡ triple_of es r ∷ [] → is_wrong (heard_in l) ≡ false →
            (fit (before ++ (triple_of es r ∷ [])) ≡ true → Outcome (first (lines_checks room (before ++ (triple_of es r ∷ [])) ls)) ((before ++ (triple_of es r ∷ [])) ++ map (triple_of es) rs)) →
            Outcome (first (line_checks room l.place (heard_in l) (before ++ triples_said (heard_in l)) ++ lines_checks room (before ++ triples_said (heard_in l)) ls)) (before ++ (triple_of es r ∷ map (triple_of es) rs))
        which false ft y fr eu ew again = inr (inl (line-unnamed l.place (heard_in l) before (triple_of es r) ls (triples_said (heard_in l)) eu ew ft))
        which true ft false fr eu ew again = inr (inr (line-no_row l.place (heard_in l) before (triple_of es r) ls (triples_said (heard_in l)) eu ew ft fr))
        which true ft true fr eu ew again =
            on _ _ (line-passes l.place (heard_in l) before (triple_of es r) ls (triples_said (heard_in l)) eu ew ft fr) (again (rw (ft, fr) refl))

-- ---- counts

module _ (es : List Entry) (whole : List Row) (apart : TellsApart es whole) where
  term-s : (x : Row) (rs : List Row) → In x rs → TermIn x.s rs
  term-s x [] i = elim i [ ]
  term-s x (y ∷ ys) (In.here e) = TermIn.subject (ap (λ (r : Row). r.s) e)
  term-s x (y ∷ ys) (In.later i) = TermIn.later (term-s x ys i)

  term-p : (x : Row) (rs : List Row) → In x rs → TermIn x.p rs
  term-p x [] i = elim i [ ]
  term-p x (y ∷ ys) (In.here e) = TermIn.predicate (ap (λ (r : Row). r.p) e)
  term-p x (y ∷ ys) (In.later i) = TermIn.later (term-p x ys i)

  term-o : (x : Row) (rs : List Row) → In x rs → TermIn x.o rs
  term-o x [] i = elim i [ ]
  term-o x (y ∷ ys) (In.here e) = TermIn.object (ap (λ (r : Row). r.o) e)
  term-o x (y ∷ ys) (In.later i) = TermIn.later (term-o x ys i)

  -- rows with different keys have different triples
  differ : (x y : Row) → In x whole → In y whole → key x < key y → (b : Bool) → same_triple (triple_of es x) (triple_of es y) ≡ b → b ≡ false
  differ x y i j h false e = refl
  differ x y i j h true e =
      let a = both_true (same_meant (meant_of es x.s) (meant_of es y.s)) (same_meant (meant_of es x.p) (meant_of es y.p) && same_meant (meant_of es x.o) (meant_of es y.o)) e in
      let b = both_true (same_meant (meant_of es x.p) (meant_of es y.p)) (same_meant (meant_of es x.o) (meant_of es y.o)) a.1 in
      let s : x.s ≡ y.s = apart x.s y.s (term-s x whole i) (term-s y whole j) (meant_tells _ _ a.0) in
      let p : x.p ≡ y.p = apart x.p y.p (term-p x whole i) (term-p y whole j) (meant_tells _ _ b.0) in
      let o : x.o ≡ y.o = apart x.o y.o (term-o x whole i) (term-o y whole j) (meant_tells _ _ b.1) in
      absurd (omega arith)

  none-among : (y : Row) (done : List Row) → ((x : Row) → In x done → same_triple (triple_of es x) (triple_of es y) ≡ false) →
      is_among same_triple (triple_of es y) (map (triple_of es) done) ≡ false
  unfolding is_among
  none-among y [] h = refl
  none-among y (x ∷ xs) h = rw (h x (In.here refl)) (none-among y xs (λ z i. h z (In.later i)))

  over-in : (k : ℕ) (rs : List Row) → Over k rs → (y : Row) → In y rs → k < key y
  unfolding Over
  over-in k [] h y i = elim i [ ]
  over-in k (x ∷ xs) h y (In.here e) = rw e at h.0
  over-in k (x ∷ xs) h y (In.later i) = over-in k xs h.1 y i

  all_met : (before rest : List Row) → ((x : Row) → In x before → In x whole) → ((x : Row) → In x rest → In x whole) → Ascending rest →
      ((x y : Row) → In x before → In y rest → key x < key y) → met_after same_triple (map (triple_of es) before) (map (triple_of es) rest) ≡ map (triple_of es) (before ++ rest)
  unfolding met_after Ascending
  all_met before [] b r up below = ap (map (triple_of es)) (sym (append-nil before))
  all_met before (y ∷ ys) b r up below =
      let none = none-among y before (λ x i. differ x y (b x i) (r y (In.here refl)) (below x y i (In.here refl)) _ refl) in
      ap (λ (t : Bool). met_after same_triple (cond t (map (triple_of es) before) (map (triple_of es) before ++ (triple_of es y ∷ []))) (map (triple_of es) ys)) none
      ∙ ap (λ (l : List Triple). met_after same_triple l (map (triple_of es) ys)) (sym (map-append (triple_of es) before (y ∷ [])))
      ∙ all_met (before ++ (y ∷ [])) ys (λ x i. one x i) (λ x i. r x (In.later i)) up.1 (λ x z i j. under x z i j)
      ∙ ap (map (triple_of es)) (append_assoc before (y ∷ []) ys)
    where
      one : (x : Row) → In x (before ++ (y ∷ [])) → In x whole
      one x i = either x (in_either before (y ∷ []) i)
        where
          either : (x : Row) → In x before ⊎ In x (y ∷ []) → In x whole
          either x (inl j) = b x j
          either x (inr j) = subst (λ (z : Row). In z whole) (in_one j) (r y (In.here refl))

      under : (x z : Row) → In x (before ++ (y ∷ [])) → In z ys → key x < key z
      under x z i j = either x z j (in_either before (y ∷ []) i)
        where
          either : (x z : Row) → In z ys → In x before ⊎ In x (y ∷ []) → key x < key z
          either x z j (inl k) = below x z k (In.later j)
          either x z j (inr k) = subst (λ (w : Row). key w < key z) (in_one k) (over-in (key y) ys up.0 z j)

in_nothing : {x : Row} → In x [] → ⊥
in_nothing = elim [ ]

length-same : (es : List Entry) (rs : List Row) → length (map (triple_of es) rs) ≡ length rs
length-same es [] = refl
length-same es (r ∷ rs) = ap suc (length-same es rs)

told_apart : (es : List Entry) (rs : List Row) → TellsApart es rs → Ascending rs → length (different_triples (map (triple_of es) rs)) ≡ length rs
told_apart es rs apart up =
    ap length (all_met es rs apart [] rs (λ x i. absurd (in_nothing i)) (λ x i. i) up (λ x y i j. absurd (in_nothing i))) ∙ length-same es rs

-- ---- the lent lanes

lent-passes : (kind a : ℕ) (file : List ℕ) (l : Lanes) (n : NameLanes) (cs : List Check) → length file ≤ 65535 → is_kind kind ≡ true → is_legal kind a ≡ true → is_unfit l ≡ false → is_unfit_list n ≡ false →
    first (lent_checks kind a file l n ++ cs) ≡ first cs
lent-passes kind a file l n cs short known legal ul un =
    kind-passes kind 0 (refuse (is_unfit l || is_unfit_list n) 11 0 ∷ refuse (ltb 65535 (length file)) 13 0 ∷ (annotation_checks kind a 0 ++ cs)) known
    ∙ first_passes (is_unfit l || is_unfit_list n) 11 0 (refuse (ltb 65535 (length file)) 13 0 ∷ (annotation_checks kind a 0 ++ cs)) (rw (ul, un) refl)
    ∙ first_passes (ltb 65535 (length file)) 13 0 (annotation_checks kind a 0 ++ cs) (le-ltb 65535 (length file) short)
    ∙ annotation-passes kind a 0 cs legal

less : (v : Verdict) (all : List Triple) (room : Room) → Outcome room v all → fit room all ≡ false → (v.number ≡ 27) ⊎ (v.number ≡ 12)
less v all room (inl q) f = absurd (true≢false (sym q.1 ∙ f))
less v all room (inr q) f = q

pub reads_back : T4
reads_back kind l count n names out e kind' a m k short known legal um uk =
    let es : List Entry = entries_of n names in
    let rows : List Row = rows_of l count in
    let file : List ℕ = file_bytes es rows in
    let w : LinesMean es (lines_from 0 file) rows = (writing_canonical kind l count n names out e).lines_mean in
    let v : (read_file kind' a file m k).verdict_of ≡ first (lines_checks (room_of m k) [] (lines_from 0 file))
    = reading-refusals kind' a file m k ∙ lent-passes kind' a file m k (lines_checks (room_of m k) [] (lines_from 0 file)) short known legal um uk in
    let many : (read_file kind' a file m k).verdict_of ≡ done → length (read_file kind' a file m k).rows ≡ length (different_triples (map (triple_of es) rows))
    = λ d. count_of-triples kind' a file m k d ∙ ap (λ (ts : List Triple). length (different_triples ts)) (triples-are es w) in
    record {
      is_done = λ ft fr. v ∙ fits-done (room_of m k) es w [] ft fr;
      less_room = λ f. subst (λ (x : Verdict). (x.number ≡ 27) ⊎ (x.number ≡ 12)) (sym v)
          (less (first (lines_checks (room_of m k) [] (lines_from 0 file))) (map (triple_of es) rows) (room_of m k) (outcome (room_of m k) es w [] (nothing-fits (room_of m k))) f);
      same_triples = λ d t. (λ i. ((reading-means kind' a file m k d).means t).1 (rows-lines es w t i), λ i. lines_rows es w t (((reading-means kind' a file m k d).means t).0 i));
      count_is = many;
      same_count = λ d apart. many d ∙ told_apart es rows apart (sound-list (done-sound kind l count n names out e)).ascending;
    }
