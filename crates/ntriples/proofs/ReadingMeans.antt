-- T1: a done reading means its file. T2: its refusals, exactly. And: what it leaves is a sound table, and any two results that its contract
-- allows coincide. Assumes nothing.
use mathlib.Core.Path.{◌≡◌, refl, sym, ap, subst, ◌∙◌}
use mathlib.Core.Bool.{Bool, true, false, not, ◌||◌}
use mathlib.Core.List.{List, [], ◌∷◌, ◌++◌}
use mathlib.Core.Logic.{⊎_elim}
use Prim.Native.Nat.{ℕ, ◌≤◌}
use native.Mathlib.Omega.{arith}
use lib.Dec.{eqb, ltb}
use lib.ListN.{length}
use borrow.Author.Tests.{not-false, ltb-false, eqb-true, eqb-false}
use Rattle.ground.specs.Lists.{All, each}
use Rattle.ground.proofs.Bools.{neither}
use Rattle.term.specs.Refusal.{Check, done, first}
use Rattle.term.specs.declared.refusal.Verdict.{Verdict}
use Rattle.term.proofs.Firsts.{Numbered, first_stops, first-clear, first_done, first-split}
use Rattle.annotation.specs.Kinds.{is_kind, is_legal}
use Rattle.annotation.proofs.Judged.{annotation-numbered, passes-annotation}
use Rattle.table.specs.Rows.{Row, Lanes, filled}
use Rattle.table.specs.Sound.{Ascending, AllLegal, SoundRows, Sound}
use Rattle.table.specs.Checks.{is_unfit}
use Rattle.table.proofs.Laid.{filled-rows, filled-as_long}
use Rattle.table.proofs.Soundness.{Fit, fit_of, fit-within, rows-sound}
use Rattle.names.specs.Names.{Entry, NameLanes, is_unfit_list}
use Rattle.names.specs.Entering.{bytes_of, Made}
use Rattle.ntline.specs.Grammar.{Said, Term}
use Rattle.ntline.specs.Lines.{Heard}
use Rattle.ntline.proofs.Encoded.{line-heard, heard-line}
use Rattle.ntenter.specs.Line.{Read, Room, room_of}
use Rattle.ntread.specs.Reading.{LineAt, lines_from, lent_checks, when_done, read_lines, read_file, ReadingTriples}
use Rattle.ntriples.specs.Shown.{Triple, triple_of, triple_said, InRows, InLines, ReadingMeans, T1, met_after, different_triples, heard_in, triples_said, triples_in, lines_checks, T2}
use Rattle.ntriples.proofs.ReadingMeansMet.{In, here, later, in_none, in_one, in_front, in_behind, in_either}
use Rattle.ntriples.proofs.ReadingMeansHeld.{Holds, stands-means}
use Rattle.ntriples.proofs.ReadingMeansLines.{Outcome, lines_read}

-- ---- the triples of lines

said_in : (line : Heard) (t : Triple) → In t (triples_said line) → (s : Term) × (p : Term) × (o : Term) × (line ≡ Heard.heard (Said.says s p o)) × (triple_said s p o ≡ t)
said_in Heard.wrong t i = absurd (in_none i)
said_in (Heard.heard Said.nothing) t i = absurd (in_none i)
said_in (Heard.heard (Said.says s p o)) t i = (s, p, o, refl, in_one i)

lines_in : (t : Triple) (ls : List LineAt) → In t (triples_in ls) → InLines t ls
unfolding each
lines_in t [] i = absurd (in_none i)
lines_in t (l ∷ ls) i =
    ⊎_elim
    (λ j. let k = said_in (heard_in l) t j in InLines.here (heard-line l.bytes (Said.says k.0 k.1 k.2) k.3) k.4)
    (λ j. InLines.later (lines_in t ls j))
    (in_either (triples_said (heard_in l)) (triples_in ls) i)

in_lines : {t : Triple} {ls : List LineAt} → InLines t ls → In t (triples_in ls)
unfolding each
in_lines {t} (InLines.here {l = l} {ls = ls} {s = s} {p = p} {o = o} d e) =
    in_front (subst (λ (line : Heard). In t (triples_said line)) (sym (line-heard d)) (here e)) (triples_in ls)
in_lines (InLines.later {l = l} i) = in_behind (triples_said (heard_in l)) (in_lines i)

rows_in : {es : List Entry} {t : Triple} {rows : List Row} → InRows es t rows → (r : Row) × In r rows × (triple_of es r ≡ t)
rows_in (InRows.here {r = r} e) = (r, here refl, e)
rows_in (InRows.later i) = let k = rows_in i in (k.0, later k.1, k.2)

in_rows : (es : List Entry) (t : Triple) (r : Row) {rows : List Row} → In r rows → triple_of es r ≡ t → InRows es t rows
in_rows es t r (here e) q = InRows.here (ap (triple_of es) e ∙ q)
in_rows es t r (later i) q = InRows.later (in_rows es t r i q)

every : (P : Row → Type 0) (rows : List Row) → ((r : Row) → In r rows → P r) → All P rows
every P [] h = tt
every P (r ∷ rows) h = (h r (here refl), every P rows (λ x i. h x (later i)))

-- ---- from the start

module _ (kind a : ℕ) (file : List ℕ) (l : Lanes) (n : NameLanes) where
  abbrev checks : List Check
  checks = lent_checks kind a file l n

  abbrev room : Room
  room = room_of l n

  abbrev result : Read
  result = read_file kind a file l n

  numbered : Numbered checks
  numbered = (omega arith, (omega arith, (omega arith, annotation-numbered kind a 0)))

  -- what the checks before the lines leave
  record Passed : Type 0 where
    kind_known : is_kind kind ≡ true
    fit-table : is_unfit l ≡ false
    fit-list : is_unfit_list n ≡ false
    legal : is_legal kind a ≡ true

  passed : first checks ≡ done → Passed
  passed e =
      let x = first-split 4 0 (not (is_kind kind)) _ (omega arith) e in
      let y = first-split 11 0 (is_unfit l || is_unfit_list n) _ (omega arith) x.1 in
      let z = first-split 13 0 (ltb 65535 (length file)) _ (omega arith) y.1 in
      let w = passes-annotation kind a 0 [] z.1 in
      let u = neither (is_unfit l) (is_unfit_list n) y.0 in
      record { kind_known = not-false (is_kind kind) x.0; fit-table = u.0; fit-list = u.1; legal = w.0 }

  few-names : is_unfit_list n ≡ false → length n.terms ≤ 512
  few-names e =
      let u = neither (not (eqb (length n.terms) (length n.ends))) (ltb 512 (length n.terms) || ltb 32768 (length n.text)) e in
      ltb-false 512 (length n.terms) (neither (ltb 512 (length n.terms)) (ltb 32768 (length n.text)) u.1).0

  nothing-held : Holds kind a room [] [] []
  unfolding met_after each Ascending AllLegal bytes_of
  nothing-held = record {
    kept = record { made = Made.empty; few = omega arith; short = omega arith; listed = refl; legal = tt };
    sound = record { ascending = tt; legal = tt };
    annotated = λ r i. absurd (in_none i);
    row-said = λ r i. absurd (in_none i);
    said_row = λ t i. absurd (in_none i);
    count_is = refl;
    fit = omega arith;
  }

  read_by : (b : Bool) → eqb (first checks).number 0 ≡ b → result ≡ when_done b (first checks) (λ _. read_lines kind a room (lines_from 0 file) [] [])
  unfolding read_file
  read_by b e = ap (λ (x : Bool). when_done x (first checks) (λ _. read_lines kind a room (lines_from 0 file) [] [])) e

  module _ (pass : first checks ≡ done) where
    abbrev p : Passed
    p = passed pass

    outcome : Outcome kind a room (few-names p.fit-list) p.legal [] (lines_from 0 file) (read_lines kind a room (lines_from 0 file) [] [])
    outcome = lines_read kind a room (few-names p.fit-list) p.legal (lines_from 0 file) [] [] [] nothing-held

    reads : result ≡ read_lines kind a room (lines_from 0 file) [] []
    reads = read_by true (ap (λ (v : Verdict). eqb v.number 0) pass)

  pub refusals_exactly : result.verdict_of ≡ first (checks ++ lines_checks room [] (lines_from 0 file))
  refusals_exactly = which (eqb (first checks).number 0) refl
    where
      which : (b : Bool) → eqb (first checks).number 0 ≡ b → result.verdict_of ≡ first (checks ++ lines_checks room [] (lines_from 0 file))
      which true e =
          let none = eqb-true (first checks).number 0 e in
          let pass = first_done checks numbered none in
          ap (λ (r : Read). r.verdict_of) (reads pass) ∙ (outcome pass).verdict_is ∙ sym (first-clear checks (lines_checks room [] (lines_from 0 file)) numbered none)
      which false e =
          let some : (first checks).number ≡ 0 → ⊥ = eqb-false (first checks).number 0 e in
          ap (λ (r : Read). r.verdict_of) (read_by false e) ∙ sym (first_stops checks (lines_checks room [] (lines_from 0 file)) (omega (arith, some)))

  module _ (is_done : result.verdict_of ≡ done) where
    lent-done : first checks ≡ done
    lent-done = which (eqb (first checks).number 0) refl
      where
        which : (b : Bool) → eqb (first checks).number 0 ≡ b → first checks ≡ done
        which true e = first_done checks numbered (eqb-true (first checks).number 0 e)
        which false e =
            let z : (first checks).number ≡ 0 = ap (λ (r : Read). r.verdict_of.number) (sym (read_by false e)) ∙ ap (λ (v : Verdict). v.number) is_done in
            absurd (eqb-false (first checks).number 0 e z)

    pub held : Holds kind a room (triples_in (lines_from 0 file)) result.entries result.rows
    held =
        subst (λ (r : Read). Holds kind a room (triples_in (lines_from 0 file)) r.entries r.rows) (sym (reads lent-done))
        ((outcome lent-done).holds (ap (λ (r : Read). r.verdict_of) (sym (reads lent-done)) ∙ is_done))

    few : length result.entries ≤ 512
    few = omega (arith, held.kept.few, few-names (passed lent-done).fit-list)

    pub means-file : ReadingMeans kind a file result.entries result.rows
    means-file = record {
      means = λ t. (
        λ i.
            let k = rows_in i in
            let s = held.row-said k.0 k.1 in
            let e : s.0 ≡ t = sym (stands-means held.kept.made few s.2) ∙ k.2 in
            lines_in t (lines_from 0 file) (subst (λ (u : Triple). In u (triples_in (lines_from 0 file))) e s.1),
        λ i.
            let k = held.said_row t (in_lines i) in
            in_rows result.entries t k.0 k.1 (stands-means held.kept.made few k.2),
      );
      annotated = every (λ r. r.a ≡ a) result.rows held.annotated;
      made = held.kept.made;
      legal = held.kept.legal;
      sound = held.sound;
    }

    -- as many rows as there are triples
    pub count_of-triples : length result.rows ≡ length (different_triples (triples_in (lines_from 0 file)))
    count_of-triples = held.count_is

    -- a done reading leaves a sound table
    pub leaves_sound : Sound kind (filled result.rows l) (length result.rows)
    leaves_sound =
        let count : ℕ = length result.rows in
        let fit : Fit kind l count = fit_of kind l count (passed lent-done).fit-table in
        let long = filled-as_long result.rows l (fit-within kind l count (passed lent-done).fit-table held.fit) in
        rows-sound kind (filled result.rows l) (length result.rows) (passed lent-done).kind_known
        (long.same_pred ∙ fit.pred_long ∙ sym long.same_subj) (long.same_obj ∙ fit.obj_long ∙ sym long.same_subj) (long.same_ann ∙ fit.ann_long ∙ sym long.same_subj)
        (omega (arith, fit.long, long.same_subj)) (omega (arith, held.fit, long.same_subj))
        (subst (SoundRows kind) (sym (filled-rows result.rows l)) held.sound)

-- ---- the theorems

pub reading-means : T1
reading-means kind a file l n is_done = means-file kind a file l n is_done

pub reading-refusals : T2
reading-refusals kind a file l n = refusals_exactly kind a file l n

-- any two results that the contract allows coincide
pub record SameReading (m m' : Lanes) (k k' : NameLanes) (number place count names number' place' count' names' : ℕ) : Type 0 where
  pub same_number : number ≡ number'
  pub same_place : place ≡ place'
  pub same_count : count ≡ count'
  pub same_names : names ≡ names'
  pub same-lanes : m ≡ m'
  pub same-list : k ≡ k'

pub reading-determined : (kind a : ℕ) (file : List ℕ) (l m m' : Lanes) (n k k' : NameLanes) (number place count names number' place' count' names' : ℕ) →
    ReadingTriples kind a file l m n k number place count names → ReadingTriples kind a file l m' n k' number' place' count' names' →
    SameReading m m' k k' number place count names number' place' count' names'
reading-determined kind a file l m m' n k k' number place count names number' place' count' names' x y = record {
  same_number = ap (λ (v : Verdict). v.number) (x.verdict_is ∙ sym y.verdict_is);
  same_place = ap (λ (v : Verdict). v.place) (x.verdict_is ∙ sym y.verdict_is);
  same_count = x.count_is ∙ sym y.count_is;
  same_names = x.names_is ∙ sym y.names_is;
  same-lanes = x.lanes_are ∙ sym y.lanes_are;
  same-list = x.list_is ∙ sym y.list_is;
}
