-- The document's bench example on adding, P2; the crates above have the others, and `meaning` the list of all twelve. Where rows go, which is the same from either end. And measured
-- values in rows.
use Rattle.std.specs.Prelude.{◌≡◌, List, [], ◌∷◌, ℕ}
use Rattle.term.specs.Refusal.{verdict, done, first}
use Rattle.term.specs.Term.{unbound, milliamps}
use Rattle.annotation.specs.Kinds.{algebra}
use Rattle.table.specs.Rows.{Row, row, add_row, Lanes, lanes}
use Rattle.table.specs.Checks.{table_checks}

-- "P2 (10 type 11) with 7 and again 224: 231, never 255"
abbrev pub P2 : Type 0
P2 = add_row (algebra 1) (row 10 2 11 224) (add_row (algebra 1) (row 10 2 11 7) []) ≡ row 10 2 11 231 ∷ []

abbrev pub examples : List (Type 0)
examples = P2 ∷ []

-- three rows, and others added to them: between two of them, equal to one, before all, behind all; and to none
abbrev pub three : List Row
three = row 5 1 6 1 ∷ row 5 1 8 1 ∷ row 9 2 1 1 ∷ []

abbrev pub GoesBetween : Type 0
GoesBetween = add_row (algebra 1) (row 5 1 7 2) three ≡ row 5 1 6 1 ∷ row 5 1 7 2 ∷ row 5 1 8 1 ∷ row 9 2 1 1 ∷ []

abbrev pub Joins : Type 0
Joins = add_row (algebra 1) (row 5 1 8 2) three ≡ row 5 1 6 1 ∷ row 5 1 8 3 ∷ row 9 2 1 1 ∷ []

abbrev pub GoesFirst : Type 0
GoesFirst = add_row (algebra 1) (row 0 0 0 2) three ≡ row 0 0 0 2 ∷ three

abbrev pub GoesLast : Type 0
GoesLast = add_row (algebra 1) (row 9 2 2 2) three ≡ row 5 1 6 1 ∷ row 5 1 8 1 ∷ row 9 2 1 1 ∷ row 9 2 2 2 ∷ []

abbrev pub GoesAlone : Type 0
GoesAlone = add_row (algebra 1) (row 5 1 7 2) [] ≡ row 5 1 7 2 ∷ []

abbrev pub placings : List (Type 0)
placings = GoesBetween ∷ Joins ∷ GoesFirst ∷ GoesLast ∷ GoesAlone ∷ []

-- C-17, in a table of one row of kind 3: "the same row in a table: 8" (example 3: predicate a value, object 65,535); "A predicate of sort 3 is now 9";
-- a value may be subject and object
abbrev pub one_row : ℕ → ℕ → ℕ → Lanes
one_row s p o = lanes (s ∷ []) (p ∷ []) (o ∷ []) (800 ∷ [])

abbrev pub ValuesInRows : Type 0
ValuesInRows =
    (first (table_checks 3 (one_row 10 (milliamps 0) unbound) 1) ≡ verdict 8 0)
    × (first (table_checks 3 (one_row 10 (milliamps 0) 11) 1) ≡ verdict 9 0)
    × (first (table_checks 3 (one_row (milliamps 16382) 20 (milliamps 500)) 1) ≡ done)
