-- What And gives in the document's bench examples P4 to P6; and kind 5.
use Rattle.std.specs.Prelude.{◌≡◌, true, ℕ, ◌<◌}
use Rattle.ground.specs.Bits.{has}
use Rattle.term.specs.Refusal.{verdict, done, first}
use Rattle.annotation.specs.Combinations.{combinations}
use Rattle.annotation.specs.Kinds.{algebra, kind_checks, is_legal, annotation_checks}

-- "P4 (10 type 11):700, (11 sc 12):500: kind 3 gives 500, kind 4 gives 200. P5 400 and 600, kind 4: nothing."
-- "P6 kind 4, 900 and 800 by one class, 1000 and 600 by another: 700."
pub record AndExamples : Type 0 where
  pub p4_degree : (algebra 3).meet 700 500 ≡ 500
  pub p4_strict : (algebra 4).meet 700 500 ≡ 200
  pub p5 : (algebra 4).meet 400 600 ≡ 0
  pub p6 : (algebra 4).join ((algebra 4).meet 900 800) ((algebra 4).meet 1000 600) ≡ 700

-- a line on each sheet alone
abbrev pub on_sheet0 : ℕ
on_sheet0 = 0xAAAAAAAAAAAAAAAA

abbrev pub on_sheet1 : ℕ
on_sheet1 = 0xCCCCCCCCCCCCCCCC

abbrev pub on_sheet2 : ℕ
on_sheet2 = 0xF0F0F0F0F0F0F0F0

abbrev pub on_sheet3 : ℕ
on_sheet3 = 0xFF00FF00FF00FF00

abbrev pub on_sheet4 : ℕ
on_sheet4 = 0xFFFF0000FFFF0000

abbrev pub on_sheet5 : ℕ
on_sheet5 = 0xFFFFFFFF00000000

-- "A line on sheet i alone holds the 32 combinations with i", and is legal
pub record OnSheet (i a : ℕ) : Type 0 where
  pub with_it : (k : ℕ) → k < combinations → has a k ≡ has k i
  pub legal : is_legal 5 a ≡ true

-- kind 5: which annotations are refused, at place 7, and what And and Join give
pub record SheetExamples : Type 0 where
  pub alone : OnSheet 0 on_sheet0 × OnSheet 1 on_sheet1 × OnSheet 2 on_sheet2 × OnSheet 3 on_sheet3 × OnSheet 4 on_sheet4 × OnSheet 5 on_sheet5
  pub both : (algebra 5).meet on_sheet0 on_sheet1 ≡ 0x8888888888888888
  pub or_a_third : (algebra 5).join 0x8888888888888888 on_sheet2 ≡ 0xF8F8F8F8F8F8F8F8
  -- sheet 0, and not sheets 0 and 1
  pub misses : first (annotation_checks 5 2 7) ≡ verdict 28 7
  pub bottom : first (annotation_checks 5 0 7) ≡ verdict 10 7
  pub all_six : first (annotation_checks 5 0x8000000000000000 7) ≡ done
  -- any one sheet will do
  pub any_one : first (annotation_checks 5 0xFFFFFFFFFFFFFFFE 7) ≡ done
  -- no sheet is needed: all 64 bits, and never bit 0 alone
  pub none_needed : first (annotation_checks 5 0xFFFFFFFFFFFFFFFF 7) ≡ done
  pub none_alone : first (annotation_checks 5 1 7) ≡ verdict 28 7
  pub kind_two : first (kind_checks 2 0) ≡ verdict 4 0
