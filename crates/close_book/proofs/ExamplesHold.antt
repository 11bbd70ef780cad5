-- The document's listing holds, from its 41 bytes, and the one under rule set 2; so do the refusals for less room, of a cut book, of no
-- book and of one that is too long. Assumes nothing.
use mathlib.Core.Path.{◌≡◌, refl, ap, ◌∙◌}
use mathlib.Core.List.{List, [], ◌∷◌}
use Prim.Native.Nat.{ℕ, ◌≤◌, ◌<◌}
use native.Mathlib.Omega.{arith}
use lib.ListN.{length, take}
use borrow.Author.Tests.{lt-ltb}
use Rattle.ground.specs.Lists.{tab, each}
use Rattle.term.specs.Refusal.{verdict, first}
use Rattle.ruleset.specs.RuleSet.{basic_set, reflexive_set, is_rule_set}
use Rattle.annotation.specs.Kinds.{algebra, is_kind}
use Rattle.table.specs.Rows.{Row, row, Lanes, add_row}
use Rattle.field.specs.Numbers.{two_at, four_at, eight_at}
use Rattle.rhodf.specs.Rules.{rules_of}
use Rattle.rhodf.specs.Closure.{ClosureOf}
use Rattle.rhodf.proofs.TablesAgree.{closures_equal}
use Rattle.rhodf.proofs.ExamplesHold.{examples-hold}
use Rattle.book.specs.Format.{row_in}
use Rattle.book.specs.Reading.{read_as, refused, fields_from, read_book, reading}
use Rattle.printing.specs.Text.{bytes_of, decimal_in, decimal, line, closed_listing, refused_line}
use Rattle.printing.specs.Examples.{p1_book}
use Rattle.close_book.specs.Listed.{Listed}
use Rattle.close_book.specs.Examples.{buffers_of, p1_reflexive_book, P1Listed, P1ReflexiveListed, P1InRoomTwo, P1Cut, NoBook, LongBook}

-- what a book of known contents prints
module _ (l : Lanes) (b text : List ℕ) (p : Listed l b text) where
  listed-as : (kind base rules : ℕ) (rows closed : List Row) → reading b l ≡ read_as kind base rules rows → ClosureOf kind (rules_of rules) rows closed → length closed ≤ length l.subj
      → text ≡ closed_listing kind base closed
  listed-as kind base rules rows closed e c q = (rw e at p.closed) refl closed c q

  full_as : (kind base rules : ℕ) (rows closed : List Row) → reading b l ≡ read_as kind base rules rows → ClosureOf kind (rules_of rules) rows closed → length l.subj < length closed
      → text ≡ refused_line 12 0
  full_as kind base rules rows closed e c q = (rw e at p.no_room) refl closed c q

  refused_as : (number place : ℕ) → reading b l ≡ refused (verdict number place) → 0 < number → text ≡ refused_line number place
  refused_as number place e h = (rw e at p.unread) h

-- and that this is what it prints
module _ (l : Lanes) (b : List ℕ) where
  lists : (kind base rules : ℕ) (rows closed : List Row) → reading b l ≡ read_as kind base rules rows → ClosureOf kind (rules_of rules) rows closed → length closed ≤ length l.subj
      → Listed l b (closed_listing kind base closed)
  lists kind base rules rows closed e c q =
      let same : (other : List Row) → ClosureOf kind (rules_of rules) rows other → closed ≡ other = λ other o. closures_equal kind (rules_of rules) rows closed other c o in
      record {
        unread = λ h. absurd (omega (arith, rw e at h));
        no_room = λ z other o h. absurd (omega (arith, q, h, ap length (same other (rw e at o))));
        closed = λ z other o h. rw (e, same other (rw e at o)) refl;
      }

  lists_full : (kind base rules : ℕ) (rows closed : List Row) → reading b l ≡ read_as kind base rules rows → ClosureOf kind (rules_of rules) rows closed → length l.subj < length closed
      → Listed l b (refused_line 12 0)
  lists_full kind base rules rows closed e c q =
      let same : (other : List Row) → ClosureOf kind (rules_of rules) rows other → closed ≡ other = λ other o. closures_equal kind (rules_of rules) rows closed other c o in
      record {
        unread = λ h. absurd (omega (arith, rw e at h));
        no_room = λ z other o h. refl;
        closed = λ z other o h. absurd (omega (arith, q, h, ap length (same other (rw e at o))));
      }

  lists_refused : (number place : ℕ) → reading b l ≡ refused (verdict number place) → 0 < number → Listed l b (refused_line number place)
  lists_refused number place e h =
      record {
        unread = λ _. rw e refl;
        no_room = λ z other o q. absurd (omega (arith, h, rw e at z));
        closed = λ z other o q. absurd (omega (arith, h, rw e at z));
      }

abbrev p1_rows_lem : List Row
p1_rows_lem = row 10 2 11 120 ∷ row 11 1 12 2016 ∷ []

abbrev p1_closed : List Row
p1_closed = row 10 2 11 120 ∷ row 10 2 12 96 ∷ row 11 1 12 2016 ∷ []

p1_read : reading p1_book (buffers_of 1024) ≡ read_as 1 2000 basic_set p1_rows_lem
unfolding first is_rule_set read_book fields_from row_in two_at four_at eight_at algebra is_kind add_row
p1_read = refl

p1_text : closed_listing 1 2000 p1_closed ≡ bytes_of "closed 1 2000 3\n10 2 11 120\n10 2 12 96\n11 1 12 2016\n"
unfolding bytes_of line decimal decimal_in tab each
p1_text = refl

pub p1_listed : P1Listed
p1_listed =
    let there = lists (buffers_of 1024) p1_book 1 2000 basic_set p1_rows_lem p1_closed p1_read examples-hold.0 (omega arith) in (
      rw p1_text at there,
      λ text p. listed-as (buffers_of 1024) p1_book text p 1 2000 basic_set p1_rows_lem p1_closed p1_read examples-hold.0 (omega arith) ∙ p1_text,
    )

-- P1 in edition 2
abbrev p1_reflexive : List Row
p1_reflexive =
    row 0 0 0 2040 ∷ row 1 0 1 2040 ∷ row 2 0 2 120 ∷ row 10 2 11 120 ∷ row 10 2 12 96 ∷ row 11 1 11 2040 ∷ row 11 1 12 2016 ∷ row 12 1 12 2016 ∷ []

p1_reflexive_read : reading p1_reflexive_book (buffers_of 1024) ≡ read_as 1 2000 reflexive_set p1_rows_lem
unfolding first is_rule_set read_book fields_from row_in two_at four_at eight_at algebra is_kind add_row
p1_reflexive_read = refl

p1_reflexive_text : closed_listing 1 2000 p1_reflexive
    ≡ bytes_of "closed 1 2000 8\n0 0 0 2040\n1 0 1 2040\n2 0 2 120\n10 2 11 120\n10 2 12 96\n11 1 11 2040\n11 1 12 2016\n12 1 12 2016\n"
unfolding bytes_of line decimal decimal_in tab each
p1_reflexive_text = refl

p1_reflexive_closed : ClosureOf 1 (rules_of reflexive_set) p1_rows_lem p1_reflexive
p1_reflexive_closed = examples-hold.1.1.1.1.1.1.1.1.1.1.1.1.1.1.1.1.0

pub p1_reflexive_listed : P1ReflexiveListed
p1_reflexive_listed =
    let there = lists (buffers_of 1024) p1_reflexive_book 1 2000 reflexive_set p1_rows_lem p1_reflexive p1_reflexive_read p1_reflexive_closed (omega arith) in (
      rw p1_reflexive_text at there,
      λ text p.
          listed-as (buffers_of 1024) p1_reflexive_book text p 1 2000 reflexive_set p1_rows_lem p1_reflexive p1_reflexive_read p1_reflexive_closed (omega arith)
          ∙ p1_reflexive_text,
    )

p1_read_in_two : reading p1_book (buffers_of 2) ≡ read_as 1 2000 basic_set p1_rows_lem
unfolding first is_rule_set read_book fields_from row_in two_at four_at eight_at algebra is_kind add_row
p1_read_in_two = refl

pub p1_in_room_two : P1InRoomTwo
unfolding bytes_of line decimal decimal_in tab each
p1_in_room_two = (
  lists_full (buffers_of 2) p1_book 1 2000 basic_set p1_rows_lem p1_closed p1_read_in_two examples-hold.0 (omega arith),
  λ text p. full_as (buffers_of 2) p1_book text p 1 2000 basic_set p1_rows_lem p1_closed p1_read_in_two examples-hold.0 (omega arith),
)

cut-read : reading (take 40 p1_book) (buffers_of 1024) ≡ refused (verdict 1 24)
unfolding first is_rule_set read_book fields_from row_in two_at four_at eight_at algebra is_kind add_row
cut-read = refl

pub p1_cut : P1Cut
unfolding bytes_of line decimal decimal_in tab each
p1_cut = (
  lists_refused (buffers_of 1024) (take 40 p1_book) 1 24 cut-read (omega arith),
  λ text p. refused_as (buffers_of 1024) (take 40 p1_book) text p 1 24 cut-read (omega arith),
)

none_read : reading [] (buffers_of 1024) ≡ refused (verdict 2 0)
unfolding first is_rule_set read_book fields_from row_in two_at four_at eight_at algebra is_kind add_row
none_read = refl

pub no_book : NoBook
unfolding bytes_of line decimal decimal_in tab each
no_book = (lists_refused (buffers_of 1024) [] 2 0 none_read (omega arith), λ text p. refused_as (buffers_of 1024) [] text p 2 0 none_read (omega arith))

long-read : (b : List ℕ) → 65535 < length b → reading b (buffers_of 1024) ≡ refused (verdict 13 0)
unfolding first
long-read b h = rw (lt-ltb 65535 (length b) h) refl

pub long-book : LongBook
unfolding bytes_of line decimal decimal_in tab each
long-book b h = (
  lists_refused (buffers_of 1024) b 13 0 (long-read b h) (omega arith),
  λ text p. refused_as (buffers_of 1024) b text p 13 0 (long-read b h) (omega arith),
)
