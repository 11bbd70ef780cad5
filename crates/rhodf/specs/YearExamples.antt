-- Year by year: worked examples, each a statement on tables, their closures and one bit.
use Rattle.std.specs.Prelude.{◌≡◌, List, [], ◌∷◌, ◌⊎◌, ◌↔◌, ℕ, ◌<◌}
use Rattle.ground.specs.Lists.{All}
use Rattle.term.specs.Term.{sc, type}
use Rattle.table.specs.Rows.{Triple, triple, Row, row}
use Rattle.rhodf.specs.Rules.{Rules, Rule}
use Rattle.rhodf.specs.Closure.{ClosureOf}
use Rattle.rhodf.specs.Plain.{DrawnFrom, LinesOf, Agree, has_bit, in_year}

-- P1's table, base year 2000
abbrev pub lamps : List Row
lamps = row 10 type 11 120 ∷ row 11 sc 12 2016 ∷ []

abbrev pub lamps_closed : List Row
lamps_closed = row 10 type 11 120 ∷ row 10 type 12 96 ∷ row 11 sc 12 2016 ∷ []

-- bits 5 and 6 (2005, 2006) have both lines: (10 type 12) is drawn there, and only there
abbrev pub InTwoYears : Type 0
InTwoYears = (k : ℕ) → k < 64 → DrawnFrom Rule (LinesOf (has_bit k) lamps) (triple 10 type 12) ↔ ((k ≡ 5) ⊎ (k ≡ 6))

-- another table, with the same lines in 2005
abbrev pub others : List Row
others = row 10 type 11 32 ∷ row 10 type 99 64 ∷ row 11 sc 12 32 ∷ []

abbrev pub others_closed : List Row
others_closed = row 10 type 11 32 ∷ row 10 type 12 32 ∷ row 10 type 99 64 ∷ row 11 sc 12 32 ∷ []

-- three triples, in 2005 alone
abbrev pub in2005 : List Row
in2005 = row 10 type 11 32 ∷ row 10 type 12 32 ∷ row 11 sc 12 32 ∷ []

-- both closures have exactly these three there; in 2006 they differ
pub record AlikeIn2005 : Type 0 where
  pub one_closure : ClosureOf 1 Rule lamps lamps_closed
  pub other_closure : ClosureOf 1 Rule others others_closed
  pub same_lines : Agree (has_bit 5) (has_bit 5) lamps others
  pub same_closures : Agree (has_bit 5) (has_bit 5) lamps_closed others_closed
  pub these_three : Agree (has_bit 5) (has_bit 5) lamps_closed in2005
  pub other_in_2006 : Agree (has_bit 6) (has_bit 6) lamps_closed others_closed → ⊥

-- P1's table again, in a book of base year 1998: every line two bits up
abbrev pub from1998 : List Row
from1998 = row 10 type 11 480 ∷ row 11 sc 12 8064 ∷ []

pub record TwoBaseYears : Type 0 where
  pub same_lines : Agree (in_year 2000 2005) (in_year 1998 2005) lamps from1998
  pub same_closures : (closed : List Row) → ClosureOf 1 Rule from1998 closed → Agree (in_year 2000 2005) (in_year 1998 2005) lamps_closed closed

-- (5 sc 6):1, (6 sc 7):1, (10 type 5):1
abbrev pub ladder : List Row
ladder = row 5 sc 6 1 ∷ row 6 sc 7 1 ∷ row 10 type 5 1 ∷ []

-- a line, or drawn from lines by one rule
abbrev pub InOneStep : Rules → (Triple → Type 0) → Triple → Type 0
InOneStep R S t = S t ⊎ ((ps : List Triple) × R ps t × All S ps)

-- (10 type 7) is drawn by two steps and not by one
pub record ByTwoSteps : Type 0 where
  pub drawn_there : DrawnFrom Rule (LinesOf (has_bit 0) ladder) (triple 10 type 7)
  pub not_at_once : InOneStep Rule (LinesOf (has_bit 0) ladder) (triple 10 type 7) → ⊥

-- kind 5: a class on sheet 0, a subclass line on sheet 1
abbrev pub on_two_sheets : List Row
on_two_sheets = row 10 type 11 0xAAAAAAAAAAAAAAAA ∷ row 11 sc 12 0xCCCCCCCCCCCCCCCC ∷ []

-- combination 3, sheets 0 and 1, has both lines and draws (10 type 12); combination 1, sheet 0, has one line and draws nothing more
pub record OnlyTogether : Type 0 where
  pub together : DrawnFrom Rule (LinesOf (has_bit 3) on_two_sheets) (triple 10 type 12)
  pub alone : (t : Triple) → DrawnFrom Rule (LinesOf (has_bit 1) on_two_sheets) t → LinesOf (has_bit 1) on_two_sheets t

abbrev pub year_examples : List (Type 0)
year_examples = InTwoYears ∷ AlikeIn2005 ∷ TwoBaseYears ∷ ByTwoSteps ∷ OnlyTogether ∷ []
