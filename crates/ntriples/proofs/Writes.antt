-- The call of writing: refused step by step as the code meets it, or done. Assumes nothing.
use mathlib.Core.Path.{◌≡◌, refl, sym, ap, ◌∙◌}
use mathlib.Core.Bool.{Bool, true, false, not, ◌||◌}
use mathlib.Core.List.{List, [], ◌∷◌, ◌++◌}
use Prim.Native.Nat.{ℕ, ◌+◌, ◌≤◌, ◌<◌}
use native.Mathlib.Omega.{arith}
use lib.ListN.{length, drop}
use lib.Dec.{eqb, ltb}
use borrow.Author.Tests.{eqb-true, ne_eqb, lt-ltb, le-ltb, ltb-false, not-false}
use Rattle.ground.proofs.Bools.{neither}
use Rattle.field.specs.Numbers.{written}
use Rattle.term.specs.Refusal.{Check, refuse, verdict, done, first}
use Rattle.term.specs.declared.refusal.Verdict.{Verdict}
use Rattle.term.proofs.Firsts.{first-none, first_stops, first-clear, first_holds, first_passes, first_done}
use Rattle.table.specs.Rows.{Lanes, rows_of}
use Rattle.table.specs.Checks.{table_checks}
use Rattle.table.specs.Sound.{Sound}
use Rattle.table.proofs.Judging.{table-numbered}
use Rattle.table.proofs.Soundness.{passes-sound}
use Rattle.names.specs.Names.{Entry, NameLanes, entries_of, is_unfit_list}
use Rattle.ntriples.specs.Writing.{rows_writable, file_bytes, write_checks, write_done_lem, WritingTriples}
use Rattle.ntriples.specs.Inner.{lines_bytes, Judged, Lowest}
use Rattle.ntriples.proofs.Rows.{lowest_stops, lowest_passes}

-- lanes of a list that 11 lets pass
pub record ListFit (n : NameLanes) : Type 0 where
  pub equal : length n.ends ≡ length n.terms
  pub few : length n.terms ≤ 512
  pub short : length n.text ≤ 32768

pub list_fit : (n : NameLanes) → is_unfit_list n ≡ false → ListFit n
list_fit n e =
    let a = neither (not (eqb (length n.terms) (length n.ends))) (ltb 512 (length n.terms) || ltb 32768 (length n.text)) e in
    let b = neither (ltb 512 (length n.terms)) (ltb 32768 (length n.text)) a.1 in
    record {
      equal = sym (eqb-true (length n.terms) (length n.ends) (not-false (eqb (length n.terms) (length n.ends)) a.0));
      few = ltb-false 512 (length n.terms) b.0;
      short = ltb-false 32768 (length n.text) b.1;
    }

pub room-left : (bytes room size : ℕ) → size ≡ bytes → size ≤ room → bytes ≤ room
room-left bytes room size e h = omega arith

module _ (kind : ℕ) (l : Lanes) (count : ℕ) (n : NameLanes) (names : ℕ) (out : List ℕ) where
  abbrev es : List Entry
  es = entries_of n names

  abbrev room : List Check
  room = refuse (ltb (length out) (length (file_bytes (entries_of n names) (rows_of l count)))) 12 0 ∷ []

  abbrev rows : List Check
  rows = rows_writable (entries_of n names) l 0 count ++ room

  abbrev counted : List Check
  counted = refuse (ltb (length n.terms) names) 14 0 ∷ rows

  abbrev listed : List Check
  listed = refuse (is_unfit_list n) 11 0 ∷ counted

  refused-by : (v : Verdict) → v ≡ first (write_checks kind l count n names out) → 0 < v.number → WritingTriples kind l count n names out out v.number v.place 0
  refused-by v e h =
      let t : write_done_lem kind l count n names out ≡ false = rw (← e) (ne_eqb v.number 0 (λ z. omega arith)) in
      record { verdict_is = e; size_is = rw t refl; out_is = rw t refl }

  module _ (v : Verdict) (ev : v ≡ first (table_checks kind l count)) where
    pub refused-table : 0 < v.number → WritingTriples kind l count n names out out v.number v.place 0
    refused-table h = refused-by v (ev ∙ sym (first_stops (table_checks kind l count) listed (rw (← ev) h))) h

    module _ (zv : v.number ≤ 0) where
      clear : (first (table_checks kind l count)).number ≡ 0
      clear = ap (λ (x : Verdict). x.number) (sym ev) ∙ omega arith

      sound : Sound kind l count
      sound = passes-sound kind l count (first_done (table_checks kind l count) (table-numbered kind l count) clear)

      past_table : first (write_checks kind l count n names out) ≡ first listed
      past_table = first-clear (table_checks kind l count) listed (table-numbered kind l count) clear

      module _ (unfit : Bool) (eu : unfit ≡ is_unfit_list n) where
        pub refused-lanes : unfit ≡ true → WritingTriples kind l count n names out out 11 0 0
        refused-lanes h = refused-by (verdict 11 0) (sym (past_table ∙ first_holds (is_unfit_list n) 11 0 counted (sym eu ∙ h))) (omega arith)

        module _ (fit : unfit ≡ false) where
          past_lanes : first (write_checks kind l count n names out) ≡ first counted
          past_lanes = past_table ∙ first_passes (is_unfit_list n) 11 0 counted (sym eu ∙ fit)

          pub refused-count : length n.terms < names → WritingTriples kind l count n names out out 14 0 0
          refused-count h = refused-by (verdict 14 0) (sym (past_lanes ∙ first_holds (ltb (length n.terms) names) 14 0 rows (lt-ltb (length n.terms) names h))) (omega arith)

          module _ (few : names ≤ length n.terms) where
            past_count : first (write_checks kind l count n names out) ≡ first rows
            past_count = past_lanes ∙ first_passes (ltb (length n.terms) names) 14 0 rows (le-ltb (length n.terms) names few)

            pub to-judged : Judged l count
            to-judged =
                let s = sound in
                let w = s.within in
                let p = s.pred_long in
                let o = s.obj_long in
                let a = s.ann_long in
                let k = s.long in
                record { in_subj = w; in_pred = omega arith; in_obj = omega arith; in_ann = omega arith; few = omega arith }

            module _ (r : ℕ) (low : Lowest (entries_of n names) l count r) where
              pub refused-row : r < count → WritingTriples kind l count n names out out 39 r 0
              refused-row h = refused-by (verdict 39 r) (sym (past_count ∙ lowest_stops es l room count r low h)) (omega arith)

              module _ (all : count ≤ r) (size : ℕ) (size_is : size ≡ length (lines_bytes (entries_of n names) l count)) where
                past_rows : first (write_checks kind l count n names out) ≡ first room
                past_rows = past_count ∙ lowest_passes es l room count r low all

                pub refused-room : length out < size → WritingTriples kind l count n names out out 12 0 0
                refused-room h =
                    refused-by (verdict 12 0)
                    (sym (past_rows ∙ first_holds (ltb (length out) (length (file_bytes es (rows_of l count)))) 12 0 [] (lt-ltb (length out) (length (file_bytes es (rows_of l count))) (rw (← size_is) h))))
                    (omega arith)

                whole : (bytes : List ℕ) → written out 0 bytes ≡ bytes ++ drop (length bytes) out
                unfolding written
                whole bytes = let e : 0 + length bytes ≡ length bytes = omega arith in rw e refl

                pub all_written : size ≤ length out → (after : List ℕ) → after ≡ written out 0 (lines_bytes (entries_of n names) l count) → WritingTriples kind l count n names out after 0 0 size
                all_written h after e =
                    let d : first (write_checks kind l count n names out) ≡ done
                    = past_rows ∙ first_passes (ltb (length out) (length (file_bytes es (rows_of l count)))) 12 0 [] (le-ltb (length out) (length (file_bytes es (rows_of l count))) (rw (← size_is) h)) ∙ first-none in
                    let t : write_done_lem kind l count n names out ≡ true = rw d refl in
                    record {
                      verdict_is = sym d;
                      size_is = rw t size_is;
                      out_is = rw t (e ∙ whole (file_bytes es (rows_of l count)));
                    }

-- "any two results that the contract allows coincide"
pub record SameWriting (after after' : List ℕ) (number place size number' place' size' : ℕ) : Type 0 where
  pub same_number : number ≡ number'
  pub same_place : place ≡ place'
  pub same_size : size ≡ size'
  pub same_out : after ≡ after'

pub write_determined : (kind : ℕ) (l : Lanes) (count : ℕ) (n : NameLanes) (names : ℕ) (out after after' : List ℕ) (number place size number' place' size' : ℕ)
    → WritingTriples kind l count n names out after number place size → WritingTriples kind l count n names out after' number' place' size'
    → SameWriting after after' number place size number' place' size'
write_determined kind l count n names out after after' number place size number' place' size' x y =
    let e = x.verdict_is ∙ sym y.verdict_is in
    record {
      same_number = ap (λ (v : Verdict). v.number) e;
      same_place = ap (λ (v : Verdict). v.place) e;
      same_size = x.size_is ∙ sym y.size_is;
      same_out = x.out_is ∙ sym y.out_is;
    }
