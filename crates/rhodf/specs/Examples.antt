-- The document's bench examples P1 to P10, each a statement on a table and its closure, two of our own, two of measured values,
-- two of sheets and four of rule set 2.
use Rattle.std.specs.Prelude.{List, [], ◌∷◌, ℕ}
use Rattle.ruleset.specs.RuleSet.{reflexive_set}
use Rattle.term.specs.Term.{sp, sc, type, dom, range, milliamps}
use Rattle.annotation.specs.Kinds.{algebra}
use Rattle.table.specs.Rows.{row}
use Rattle.table.specs.Examples.{P2}
use Rattle.rhodf.specs.Rules.{Rule, rules_of}
use Rattle.rhodf.specs.Closure.{ClosureOf}

-- an example that names no kind, in every kind
abbrev InEachKind : (ℕ → Type 0) → Type 0
InEachKind P = P 1 × P 3 × P 4 × P 5

-- "P1 the listing": kind 1, (10 type 11):120 and (11 sc 12):2016; "10 2 11 120", "10 2 12 96", "11 1 12 2016"
abbrev pub P1 : Type 0
P1 =
    ClosureOf 1 Rule
    (row 10 type 11 120 ∷ row 11 sc 12 2016 ∷ [])
    (row 10 type 11 120 ∷ row 10 type 12 96 ∷ row 11 sc 12 2016 ∷ [])

-- "P3 (10 type 11):7, (11 sc 12):224: no third row"; years, as in P2
abbrev pub P3 : Type 0
P3 =
    ClosureOf 1 Rule
    (row 10 type 11 7 ∷ row 11 sc 12 224 ∷ [])
    (row 10 type 11 7 ∷ row 11 sc 12 224 ∷ [])

-- "P4 (10 type 11):700, (11 sc 12):500: kind 3 gives 500, kind 4 gives 200"
abbrev pub P4 : Type 0
P4 =
    ClosureOf 3 Rule
    (row 10 type 11 700 ∷ row 11 sc 12 500 ∷ [])
    (row 10 type 11 700 ∷ row 10 type 12 500 ∷ row 11 sc 12 500 ∷ [])
    × ClosureOf 4 Rule
    (row 10 type 11 700 ∷ row 11 sc 12 500 ∷ [])
    (row 10 type 11 700 ∷ row 10 type 12 200 ∷ row 11 sc 12 500 ∷ [])

-- "P5 400 and 600, kind 4: nothing"; the triples are P4's
abbrev pub P5 : Type 0
P5 =
    ClosureOf 4 Rule
    (row 10 type 11 400 ∷ row 11 sc 12 600 ∷ [])
    (row 10 type 11 400 ∷ row 11 sc 12 600 ∷ [])

-- "P6 kind 4, 900 and 800 by one class, 1000 and 600 by another: 700"; the classes are 11 and 12, both below 13
abbrev pub P6 : Type 0
P6 =
    ClosureOf 4 Rule
    (row 10 type 11 900 ∷ row 10 type 12 1000 ∷ row 11 sc 13 800 ∷ row 12 sc 13 600 ∷ [])
    (row 10 type 11 900 ∷ row 10 type 12 1000 ∷ row 10 type 13 700 ∷ row 11 sc 13 800 ∷ row 12 sc 13 600 ∷ [])

-- "P7 kind 3, (20 sp 16384):1000, (16384 dom 12):900, (10 20 30):800: one new row, (10 type 12):800"
abbrev pub P7 : Type 0
P7 =
    ClosureOf 3 Rule
    (row 10 20 30 800 ∷ row 20 sp 16384 1000 ∷ row 16384 dom 12 900 ∷ [])
    (row 10 type 12 800 ∷ row 10 20 30 800 ∷ row 20 sp 16384 1000 ∷ row 16384 dom 12 900 ∷ [])

-- "P8 (0 sp 40), (20 sp 21), all top: new (0 40 40), (20 40 21)"
abbrev pub P8In : ℕ → Type 0
P8In kind =
    ClosureOf kind Rule
    (row 0 sp 40 (algebra kind).top ∷ row 20 sp 21 (algebra kind).top ∷ [])
    (row 0 sp 40 (algebra kind).top ∷ row 0 40 40 (algebra kind).top ∷ row 20 sp 21 (algebra kind).top ∷ row 20 40 21 (algebra kind).top ∷ [])

abbrev pub P8 : Type 0
P8 = InEachKind P8In

-- "P9 kind 3, (5 sc 6):600, (6 sc 5):400: new (5 sc 5), (6 sc 6), both 400"
abbrev pub P9 : Type 0
P9 =
    ClosureOf 3 Rule
    (row 5 sc 6 600 ∷ row 6 sc 5 400 ∷ [])
    (row 5 sc 5 400 ∷ row 5 sc 6 600 ∷ row 6 sc 5 400 ∷ row 6 sc 6 400 ∷ [])

-- "P10 (20 range 12), (10 20 32769): new (32769 type 12)"; no annotation is given, so all top, as in P8
abbrev pub P10In : ℕ → Type 0
P10In kind =
    ClosureOf kind Rule
    (row 10 20 32769 (algebra kind).top ∷ row 20 range 12 (algebra kind).top ∷ [])
    (row 10 20 32769 (algebra kind).top ∷ row 20 range 12 (algebra kind).top ∷ row 32769 type 12 (algebra kind).top ∷ [])

abbrev pub P10 : Type 0
P10 = InEachKind P10In

-- ours, rule 5b: P7 with range in place of dom gives (30 type 12):800
abbrev pub RangeBeyondBlank : Type 0
RangeBeyondBlank =
    ClosureOf 3 Rule
    (row 10 20 30 800 ∷ row 20 sp 16384 1000 ∷ row 16384 range 12 900 ∷ [])
    (row 10 20 30 800 ∷ row 20 sp 16384 1000 ∷ row 30 type 12 800 ∷ row 16384 range 12 900 ∷ [])

-- ours, rule 3a over three classes: (5 sc 6):600, (6 sc 7):400 gives (5 sc 7):400
abbrev pub ThreeClasses : Type 0
ThreeClasses =
    ClosureOf 3 Rule
    (row 5 sc 6 600 ∷ row 6 sc 7 400 ∷ [])
    (row 5 sc 6 600 ∷ row 5 sc 7 400 ∷ row 6 sc 7 400 ∷ [])

-- C-17, example 6: "(20 range 12):900, (10 20 49652):800 closes with (49652 type 12):800"
abbrev pub RangeOfValue : Type 0
RangeOfValue =
    ClosureOf 3 Rule
    (row 10 20 (milliamps 500) 800 ∷ row 20 range 12 900 ∷ [])
    (row 10 20 (milliamps 500) 800 ∷ row 20 range 12 900 ∷ row (milliamps 500) type 12 800 ∷ [])

-- C-17, example 7: "(20 sp 49152):1000, (49152 dom 12):900, (10 20 30):800: one new row, (10 type 12):800 (P7 through a value)"
abbrev pub ThroughValue : Type 0
ThroughValue =
    ClosureOf 3 Rule
    (row 10 20 30 800 ∷ row 20 sp (milliamps 0) 1000 ∷ row (milliamps 0) dom 12 900 ∷ [])
    (row 10 type 12 800 ∷ row 10 20 30 800 ∷ row 20 sp (milliamps 0) 1000 ∷ row (milliamps 0) dom 12 900 ∷ [])

-- kind 5, what is on sheet 0 and what is on sheet 1 prove a line together: the 16 combinations with both
abbrev pub TwoSheets : Type 0
TwoSheets =
    ClosureOf 5 Rule
    (row 10 type 11 0xAAAAAAAAAAAAAAAA ∷ row 11 sc 12 0xCCCCCCCCCCCCCCCC ∷ [])
    (row 10 type 11 0xAAAAAAAAAAAAAAAA ∷ row 10 type 12 0x8888888888888888 ∷ row 11 sc 12 0xCCCCCCCCCCCCCCCC ∷ [])

-- and sheet 2 says it too: 0 and 1 together, or 2
abbrev pub OrAThird : Type 0
OrAThird =
    ClosureOf 5 Rule
    (row 10 type 11 0xAAAAAAAAAAAAAAAA ∷ row 10 type 12 0xF0F0F0F0F0F0F0F0 ∷ row 11 sc 12 0xCCCCCCCCCCCCCCCC ∷ [])
    (row 10 type 11 0xAAAAAAAAAAAAAAAA ∷ row 10 type 12 0xF8F8F8F8F8F8F8F8 ∷ row 11 sc 12 0xCCCCCCCCCCCCCCCC ∷ [])

-- C-23, example 1: P1 in rule set 2, eight rows
abbrev pub P1Reflexive : Type 0
P1Reflexive =
    ClosureOf 1 (rules_of reflexive_set)
    (row 10 type 11 120 ∷ row 11 sc 12 2016 ∷ [])
    (row sp sp sp 2040 ∷ row sc sp sc 2040 ∷ row type sp type 120
    ∷ row 10 type 11 120 ∷ row 10 type 12 96 ∷ row 11 sc 11 2040 ∷ row 11 sc 12 2016 ∷ row 12 sc 12 2016 ∷ [])

-- C-23, example 2: "kind 3, (16384 sp 16385):600: new (0 sp 0), (16384 sp 16384), (16385 sp 16385), all 600"; the terms are blanks
abbrev pub BlanksReflexive : Type 0
BlanksReflexive =
    ClosureOf 3 (rules_of reflexive_set)
    (row 16384 sp 16385 600 ∷ [])
    (row sp sp sp 600 ∷ row 16384 sp 16384 600 ∷ row 16384 sp 16385 600 ∷ row 16385 sp 16385 600 ∷ [])

-- C-23, example 3: "P9: (5 sc 5) and (6 sc 6) are 600 now (400 in set 1), with (0 sp 0), (1 sp 1) 600"
abbrev pub P9Reflexive : Type 0
P9Reflexive =
    ClosureOf 3 (rules_of reflexive_set)
    (row 5 sc 6 600 ∷ row 6 sc 5 400 ∷ [])
    (row sp sp sp 600 ∷ row sc sp sc 600 ∷ row 5 sc 5 600 ∷ row 5 sc 6 600 ∷ row 6 sc 5 400 ∷ row 6 sc 6 600 ∷ [])

-- C-23, example 4: "(20 dom 12):700: six rows, all 700"; no kind is named, so both kinds of degrees
abbrev pub DomReflexiveIn : ℕ → Type 0
DomReflexiveIn kind =
    ClosureOf kind (rules_of reflexive_set)
    (row 20 dom 12 700 ∷ [])
    (row sp sp sp 700 ∷ row sc sp sc 700 ∷ row dom sp dom 700 ∷ row 12 sc 12 700 ∷ row 20 sp 20 700 ∷ row 20 dom 12 700 ∷ [])

abbrev pub DomReflexive : Type 0
DomReflexive = DomReflexiveIn 3 × DomReflexiveIn 4

-- P2 is the table's own
abbrev pub examples : List (Type 0)
examples =
    P1 ∷ P2 ∷ P3 ∷ P4 ∷ P5 ∷ P6 ∷ P7 ∷ P8 ∷ P9 ∷ P10 ∷ RangeBeyondBlank ∷ ThreeClasses ∷ RangeOfValue ∷ ThroughValue ∷ TwoSheets ∷ OrAThird
    ∷ P1Reflexive ∷ BlanksReflexive ∷ P9Reflexive ∷ DomReflexive ∷ []
