-- Adding a triple: what is refused, and what a done adding leaves.
use Rattle.std.specs.Prelude.{◌≡◌, Bool, cond, List, [], ◌∷◌, ◌++◌, ℕ, length, eqb, ltb}
use Rattle.term.specs.Refusal.{Check, refuse, verdict, first}
use Rattle.annotation.specs.Kinds.{algebra}
use Rattle.table.specs.Rows.{Row, Lanes, rows_of, add_row, laid}
use Rattle.table.specs.Checks.{table_checks, triple_checks}

-- the table's rows with the triple added
abbrev pub rows_with : ℕ → Row → Lanes → ℕ → List Row
rows_with kind r l n = add_row (algebra kind) r (rows_of l n)

-- "Adding: table, then the triple's 8, 9, 10, then 12"; 28 behind 10
abbrev pub add_checks : ℕ → Row → Lanes → ℕ → List Check
add_checks kind r l n =
    table_checks kind l n
    ++ (triple_checks kind r 0
    ++ (refuse (ltb (length l.subj) (length (rows_with kind r l n))) 12 0 ∷ []))

abbrev pub add_done : ℕ → Row → Lanes → ℕ → Bool
add_done kind r l n = eqb (first (add_checks kind r l n)).number 0

-- "every refusal of adding .. change nothing"; "Adding touches no row past its new count"
pub record Adding (kind : ℕ) (r : Row) (l : Lanes) (n : ℕ) (m : Lanes) (number place count : ℕ) : Type 0 where
  pub verdict_is : verdict number place ≡ first (add_checks kind r l n)
  pub count_is : count ≡ cond (add_done kind r l n) (length (rows_with kind r l n)) n
  pub lanes_are : m ≡ cond (add_done kind r l n) (laid (rows_with kind r l n) l) l
