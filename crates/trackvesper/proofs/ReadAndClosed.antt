-- A book read into lent lanes, and a table closed there: what stands in the lanes after each, whatever their length. Assumes nothing.
use mathlib.Core.Path.{◌≡◌, refl, sym, ap, ◌∙◌}
use mathlib.Core.Bool.{Bool, true, false, cond}
use mathlib.Core.List.{List}
use Prim.Native.Nat.{ℕ, ◌≤◌, ◌<◌}
use native.Mathlib.Decide.{dec_lt}
use native.Mathlib.Omega.{arith}
use lib.ListN.{length}
use lib.Dec.{eqb}
use borrow.Author.Tests.{eqb-true, eqb-false}
use Rattle.term.specs.Refusal.{verdict, first}
use Rattle.term.specs.declared.refusal.Verdict.{Verdict}
use Rattle.term.proofs.Firsts.{first_done, first-split}
use Rattle.ruleset.specs.RuleSet.{is_rule_set}
use Rattle.table.specs.Rows.{Row, Lanes, rows_of, filled, AsLong}
use Rattle.table.specs.Checks.{is_unfit}
use Rattle.table.specs.Sound.{Sound, SoundRows}
use Rattle.table.proofs.Soundness.{fit_of, fit-within, rows-sound, sound-list, sound-as_long}
use Rattle.table.proofs.Laid.{filled-rows, filled-as_long}
use Rattle.rhodf.specs.Rules.{rules_of}
use Rattle.rhodf.specs.Closure.{ClosureOf}
use Rattle.rhodf.proofs.Exists.{closure_exists}
use Rattle.book.specs.Reading.{Read, reading, lend_checks, Reading}
use Rattle.book.proofs.ReadsSound.{LegalHead, reading-sound}
use Rattle.closing.specs.Closing.{Closing}
use Rattle.closing.proofs.CloseCloses.{Closes, close_closes}

pub number_of : {v w : Verdict} → v ≡ w → v.number ≡ w.number
number_of e = ap (λ (v : Verdict). v.number) e

pub place_of : {v w : Verdict} → v ≡ w → v.place ≡ w.place
place_of e = ap (λ (v : Verdict). v.place) e

-- ---- a sound table, closed

module _ (kind rules : ℕ) (known : is_rule_set rules ≡ true) (l : Lanes) (n : ℕ) (sound : Sound kind l n) (m : Lanes) (number place count : ℕ)
    (close : Closing kind rules l n m number place count) where
  -- there is a closure: either it fits the room, or it does not
  pub by_room : {P : Type 0}
      → ((closed : List Row) → ClosureOf kind (rules_of rules) (rows_of l n) closed → length closed ≤ length l.subj → P)
      → ((closed : List Row) → ClosureOf kind (rules_of rules) (rows_of l n) closed → length l.subj < length closed → P) → P
  by_room {P} fits full = go (closure_exists kind rules (rows_of l n) (sound-list sound))
    where
      go : (closed : List Row) × ClosureOf kind (rules_of rules) (rows_of l n) closed → P
      go c = pick (dec_lt (length l.subj) (length c.0))
        where
          pick : Dec (length l.subj < length c.0) → P
          pick (yes q) = full c.0 c.1 q
          pick (no q) = fits c.0 c.1 (omega arith)

  -- refused: then for want of room
  module _ (h : 0 < number) where
    pub full : (closed : List Row) → ClosureOf kind (rules_of rules) (rows_of l n) closed → length closed ≤ length l.subj → ⊥
    full closed c q = omega (arith, number_of (close.fits known sound closed c q).0)

    pub full_is : verdict number place ≡ verdict 12 0
    full_is = by_room (λ closed c q. absurd (full closed c q)) (λ closed c q. (close.no_room known sound closed c q).0)

  module _ (z : number ≤ 0) where
    pub not_full : (closed : List Row) → ClosureOf kind (rules_of rules) (rows_of l n) closed → length l.subj < length closed → ⊥
    not_full closed c q = omega (arith, number_of (close.no_room known sound closed c q).0)

    closes : Closes kind rules l n m count
    closes = let e : number ≡ 0 = omega arith in close_closes kind rules l n m place count (rw e at close)

    pub closed-sound : Sound kind m count
    closed-sound = closes.sound

    pub closed-as_long : AsLong l m
    closed-as_long = sound-as_long sound closed-sound closes.as_long

    pub closed-rows : (closed : List Row) → ClosureOf kind (rules_of rules) (rows_of l n) closed → length closed ≤ length l.subj → rows_of m count ≡ closed
    closed-rows closed c q = let f = close.fits known sound closed c q in rw (f.1, f.2) (filled-rows closed l)

    pub closed-count : (closed : List Row) → ClosureOf kind (rules_of rules) (rows_of l n) closed → length closed ≤ length l.subj → count ≡ length closed
    closed-count closed c q = (close.fits known sound closed c q).2

    pub closed_is : ClosureOf kind (rules_of rules) (rows_of l n) (rows_of m count)
    closed_is = by_room (λ closed c q. rw (closed-rows closed c q) c) (λ closed c q. absurd (not_full closed c q))

-- ---- a book, read

module _ (b : List ℕ) (l m : Lanes) (number place kind base rules count : ℕ) (read : Reading b l m number place kind base rules count) where
  abbrev what : Read
  what = reading b l

  pub is_number : number ≡ what.verdict_of.number
  is_number = number_of read.verdict_is

  pub is-place : place ≡ what.verdict_of.place
  is-place = place_of read.verdict_is

  module _ (z : number ≤ 0) where
    pub zero_number : what.verdict_of.number ≡ 0
    zero_number = omega (arith, is_number)

    pub head : LegalHead what.kind what.base what.rules
    head = (reading-sound b l).head zero_number

    rows-good : SoundRows what.kind what.rows
    rows-good = (reading-sound b l).sound zero_number

    rows_fit : length what.rows ≤ length l.subj
    rows_fit = (reading-sound b l).fits zero_number

    lends : (t : Bool) → eqb (first (lend_checks b l)).number 0 ≡ t → eqb (first (lend_checks b l)).number 0 ≡ true
    lends true e = e
    lends false e = absurd (eqb-false (first (lend_checks b l)).number 0 e (rw e at zero_number))

    lent : eqb (first (lend_checks b l)).number 0 ≡ true
    lent = lends (eqb (first (lend_checks b l)).number 0) refl

    fits : is_unfit l ≡ false
    fits =
        let d = first_done (lend_checks b l) (omega arith, (omega arith, tt)) (eqb-true (first (lend_checks b l)).number 0 lent) in
        (first-split 11 0 (is_unfit l) _ (omega arith) d).0

    lanes-read : m ≡ filled what.rows l
    lanes-read = read.lanes_are ∙ ap (λ (x : Bool). cond x (filled what.rows l) l) lent

    pub read-rows : rows_of m count ≡ what.rows
    read-rows = rw (lanes-read, read.count_is) (filled-rows what.rows l)

    pub known-rules : is_rule_set rules ≡ true
    known-rules = rw read.rules_is head.rules_known

    pub read-as_long : AsLong l m
    read-as_long = rw lanes-read (filled-as_long what.rows l (fit-within kind l (length what.rows) fits rows_fit))

    pub read-sound : Sound kind m count
    read-sound =
        let f = fit_of kind l 0 fits in
        let long = read-as_long in
        rows-sound kind m count (rw read.kind_is head.kind_known)
        (long.same_pred ∙ f.pred_long ∙ sym long.same_subj)
        (long.same_obj ∙ f.obj_long ∙ sym long.same_subj)
        (long.same_ann ∙ f.ann_long ∙ sym long.same_subj)
        (omega (arith, f.long, long.same_subj))
        (omega (arith, rows_fit, read.count_is, long.same_subj))
        (rw (read-rows, read.kind_is) rows-good)

    -- a closure of what the book says is a closure of the table read
    pub of_table : (closed : List Row) → ClosureOf what.kind (rules_of what.rules) what.rows closed → ClosureOf kind (rules_of rules) (rows_of m count) closed
    of_table closed c = rw (read-rows, read.kind_is, read.rules_is) c

    pub of_book : (closed : List Row) → ClosureOf kind (rules_of rules) (rows_of m count) closed → ClosureOf what.kind (rules_of what.rules) what.rows closed
    of_book closed c = rw (read-rows, read.kind_is, read.rules_is) at c
