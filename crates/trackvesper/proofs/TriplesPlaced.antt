-- The numbers of a makers' list's reading and writing are small enough to stand in one word. Assumes nothing.
use mathlib.Core.Path.{◌≡◌, refl, sym, ap, ◌∙◌}
use mathlib.Core.Bool.{Bool, true, false, not, cond, ◌||◌}
use mathlib.Core.List.{List, [], ◌∷◌, ◌++◌}
use Prim.Native.Nat.{ℕ, zero, suc, ◌+◌, ◌*◌, ◌≤◌, ◌<◌}
use native.Mathlib.Omega.{arith}
use lib.Dec.{eqb, ltb}
use lib.ListN.{length}
use borrow.Author.Tests.{eqb-true, eq-eqb, ne_eqb, leb-true, ltb-false, not-false}
use Rattle.ground.proofs.Bools.{neither}
use Rattle.term.specs.Refusal.{Check, refuse, first}
use Rattle.term.specs.declared.refusal.Verdict.{Verdict}
use Rattle.term.proofs.Firsts.{AllAt, at_append, number-split}
use Rattle.annotation.specs.Kinds.{is_kind}
use Rattle.table.specs.Rows.{Lanes, row_at}
use Rattle.table.specs.Checks.{triple_checks, row_checks, rows_checks, is_not_above, is_unfit}
use Rattle.table.proofs.Judging.{triple-at}
use Rattle.names.specs.Names.{Entry, NameLanes, entries_of, is_unfit_list}
use Rattle.names.proofs.Same.{both_true}
use Rattle.ntenter.specs.Line.{Read, room_of}
use Rattle.ntread.specs.Reading.{lines_from, read_lines, lent_checks, when_done, read_file, ReadingTriples}
use Rattle.ntread.proofs.Bounded.{lines_bounded, places_within}
use Rattle.ntriples.specs.Writing.{rows_writable, write_checks, WritingTriples}
use Rattle.trackvesper.specs.ClosedBook.{a_number, packed}
use Rattle.trackvesper.specs.Triples.{a_name, ReadTriplesExported, WriteTriplesExported}

-- ---- checks whose places are no larger than a number

abbrev AllBelow : ℕ → List Check → Type 0
AllBelow m [] = Unit {0}
AllBelow m (c ∷ cs) = (c.place ≤ m) × AllBelow m cs

first_below : (m : ℕ) (cs : List Check) → AllBelow m cs → (first cs).place ≤ m
unfolding first
first_below m [] h = omega arith
first_below m (c ∷ cs) h = go c.when (first_below m cs h.1)
  where
    go : (t : Bool) → (first cs).place ≤ m → (cond t (record { number = c.number; place = c.place }) (first cs)).place ≤ m
    go true k = h.0
    go false k = k

below-append : (m : ℕ) (cs ds : List Check) → AllBelow m cs → AllBelow m ds → AllBelow m (cs ++ ds)
below-append m [] ds h k = k
below-append m (c ∷ cs) ds h k = (h.0, below-append m cs ds h.1 k)

at_below : (p m : ℕ) (cs : List Check) → p ≤ m → AllAt p cs → AllBelow m cs
at_below p m [] l h = tt
at_below p m (c ∷ cs) l h = (omega (arith, h.0), at_below p m cs l h.1)

-- a check at place 0, and what is known behind it
guarded : (m : ℕ) (w : Bool) (number : ℕ) (cs : List Check) → (w ≡ false → (first cs).place ≤ m) → (first (refuse w number 0 ∷ cs)).place ≤ m
unfolding first
guarded m true number cs h = omega arith
guarded m false number cs h = h refl

rows-below : (kind : ℕ) (l : Lanes) (m i n : ℕ) → i + n ≤ m → AllBelow m (rows_checks kind l i n)
unfolding rows_checks
rows-below kind l m i zero h = tt
rows-below kind l m i (suc n) h =
    below-append m (row_checks kind l i) (rows_checks kind l (suc i) n)
    (at_below i m (row_checks kind l i) (omega arith)
    (at_append i (triple_checks kind (row_at l i) i) (refuse (is_not_above l.subj l.pred l.obj i) 15 i ∷ []) (triple-at kind (row_at l i) i) (refl, tt)))
    (rows-below kind l m (suc i) n (omega arith))

writable_below : (es : List Entry) (l : Lanes) (m i n : ℕ) → i + n ≤ m → AllBelow m (rows_writable es l i n)
unfolding rows_writable
writable_below es l m i zero h = tt
writable_below es l m i (suc n) h = (omega arith, writable_below es l m (suc i) n (omega arith))

fit-rows : (l : Lanes) → is_unfit l ≡ false → length l.subj ≤ 1024
fit-rows l h =
    let a = both_true (eqb (length l.pred) (length l.subj)) _ (not-false _ h) in
    let b = both_true (eqb (length l.obj) (length l.subj)) _ a.1 in
    let c = both_true (eqb (length l.ann) (length l.subj)) _ b.1 in
    leb-true (length l.subj) 1024 c.1

-- ---- writing: a row's place, or 0

pub write_placed : (kind : ℕ) (l : Lanes) (count : ℕ) (n : NameLanes) (names : ℕ) (out : List ℕ) → (first (write_checks kind l count n names out)).place ≤ 1024
write_placed kind l count n names out =
    guarded 1024 (not (is_kind kind)) 4 _
    (λ k. guarded 1024 (is_unfit l) 11 _
    (λ u. guarded 1024 (ltb (length l.subj) count) 14 _
    (λ c.
    let fit = fit-rows l u in
    let few = ltb-false (length l.subj) count c in
    first_below 1024 _
    (below-append 1024 (rows_checks kind l 0 count) _ (rows-below kind l 1024 0 count (omega arith))
    (omega arith, (omega arith, below-append 1024 (rows_writable (entries_of n names) l 0 count) _ (writable_below (entries_of n names) l 1024 0 count (omega arith)) (omega arith, tt)))))))

-- ---- reading: a place in the file, and rows and names that there is room for

pub record Small (r : Read) : Type 0 where
  pub place : r.verdict_of.place ≤ 65535
  pub rows : length r.rows ≤ 1024
  pub entries : length r.entries ≤ 512

pub read_small : (kind a : ℕ) (file : List ℕ) (l : Lanes) (n : NameLanes) → Small (read_file kind a file l n)
unfolding read_file
read_small kind a file l n = go (eqb (first (lent_checks kind a file l n)).number 0) refl
  where
    done-small : (first (lent_checks kind a file l n)).number ≡ 0 → Small (read_lines kind a (room_of l n) (lines_from 0 file) [] [])
    done-small z =
        let p = number-split (not (is_kind kind)) 4 0 _ (omega arith) z in
        let q = number-split (is_unfit l || is_unfit_list n) 11 0 _ (omega arith) p.1 in
        let r = number-split (ltb 65535 (length file)) 13 0 _ (omega arith) q.1 in
        let u = neither (is_unfit l) (is_unfit_list n) q.0 in
        let v = neither (not (eqb (length n.terms) (length n.ends))) _ u.1 in
        let w = neither (ltb 512 (length n.terms)) (ltb 32768 (length n.text)) v.1 in
        let b = lines_bounded (0 + length file) (room_of l n) kind a (lines_from 0 file) [] [] (places_within 0 file) (omega arith) (omega arith) in
        record {
          place = omega (arith, b.place, ltb-false 65535 (length file) r.0);
          rows = omega (arith, b.rows, fit-rows l u.0);
          entries = omega (arith, b.entries, ltb-false 512 (length n.terms) w.0);
        }

    go : (t : Bool) → eqb (first (lent_checks kind a file l n)).number 0 ≡ t
        → Small (when_done t (first (lent_checks kind a file l n)) (λ _. read_lines kind a (room_of l n) (lines_from 0 file) [] []))
    go true e = done-small (eqb-true (first (lent_checks kind a file l n)).number 0 e)
    go false e =
        let b = first_below 0 (lent_checks kind a file l n) (omega arith, (omega arith, (omega arith, (omega arith, (omega arith, tt))))) in
        record { place = omega (arith, b); rows = omega arith; entries = omega arith }

-- ---- the exported answers

module _ (kind a : ℕ) (file : List ℕ) (l m : Lanes) (n k : NameLanes) (number place count names : ℕ) (r : ReadingTriples kind a file l m n k number place count names) where
  abbrev what : Read
  what = read_file kind a file l n

  read_number : number ≡ what.verdict_of.number
  read_number = ap (λ (v : Verdict). v.number) r.verdict_is

  pub read-place : place < a_number
  read-place =
      let e : place ≡ what.verdict_of.place = ap (λ (v : Verdict). v.place) r.verdict_is in
      omega (arith, (read_small kind a file l n).place, e)

  pub read_names : names ≤ 512
  read_names = omega (arith, r.names_is, (read_small kind a file l n).entries)

  pub read_count : count ≤ 1024
  read_count = omega (arith, r.count_is, (read_small kind a file l n).rows)

  pub read-refused : 0 < number → (x : ℕ) → x ≡ packed number place → ReadTriplesExported kind a file l m n k x
  read-refused h x e = record {
    answer_is = e ∙ sym (rw (← r.verdict_is, ne_eqb number 0 (λ z. omega arith)) refl);
    lanes_are = r.lanes_are;
    list_is = r.list_is;
  }

  pub read_done : number ≤ 0 → (x : ℕ) → x ≡ names * a_name + count → ReadTriplesExported kind a file l m n k x
  read_done h x e = record {
    answer_is = e ∙ rw (r.names_is, r.count_is) (sym (rw (← r.verdict_is, eq-eqb number 0 (omega arith)) refl));
    lanes_are = r.lanes_are;
    list_is = r.list_is;
  }

module _ (kind : ℕ) (l : Lanes) (count : ℕ) (n : NameLanes) (names : ℕ) (out after : List ℕ) (number place size : ℕ) (r : WritingTriples kind l count n names out after number place size) where
  pub write_place : place < a_number
  write_place =
      let e : place ≡ (first (write_checks kind l count n names out)).place = ap (λ (v : Verdict). v.place) r.verdict_is in
      omega (arith, write_placed kind l count n names out, e)

  pub write_refused : 0 < number → (x : ℕ) → x ≡ packed number place → WriteTriplesExported kind l count n names out after x
  write_refused h x e = record {
    answer_is = e ∙ sym (rw (← r.verdict_is, ne_eqb number 0 (λ z. omega arith)) refl);
    out_is = r.out_is;
  }

  pub write_done : number ≤ 0 → (x : ℕ) → x ≡ size → WriteTriplesExported kind l count n names out after x
  write_done h x e =
      let z : (first (write_checks kind l count n names out)).number ≡ 0 = sym (ap (λ (v : Verdict). v.number) r.verdict_is) ∙ omega arith in
      record {
        answer_is = e ∙ r.size_is ∙ rw (eq-eqb (first (write_checks kind l count n names out)).number 0 z) refl;
        out_is = r.out_is;
      }
