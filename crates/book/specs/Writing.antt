-- Writing a table as a book into lent bytes.
use Rattle.std.specs.Prelude.{◌≡◌, Bool, cond, List, [], ◌∷◌, ◌++◌, ℕ, ◌+◌, ◌*◌, length, drop, eqb, ltb}
use Rattle.term.specs.Refusal.{Check, refuse, verdict, first}
use Rattle.ruleset.specs.RuleSet.{rule_set_checks}
use Rattle.annotation.specs.Kinds.{kind_checks}
use Rattle.table.specs.Rows.{Lanes, rows_of}
use Rattle.table.specs.Checks.{table_checks}
use Rattle.book.specs.Format.{head_size_lem, triple_size, base_checks, book_bytes}

-- a head, and a field for each row
abbrev pub book_length_lem : ℕ → ℕ → ℕ
book_length_lem rules n = head_size_lem rules + triple_size * n

-- "Writing: 4, 5, table, 12", and "36 .. after 5"
abbrev pub write_checks : ℕ → ℕ → ℕ → Lanes → ℕ → ℕ → List Check
write_checks kind base rules l n room =
    kind_checks kind 0
    ++ (base_checks kind base 0
    ++ (rule_set_checks rules 0
    ++ (table_checks kind l n
    ++ (refuse (ltb room (book_length_lem rules n)) 12 0 ∷ []))))

abbrev pub write_done_lem : ℕ → ℕ → ℕ → Lanes → ℕ → ℕ → Bool
write_done_lem kind base rules l n room = eqb (first (write_checks kind base rules l n room)).number 0

-- "The writer gives rows in table order"; "every refusal of .. writing .. change nothing"; "a done writing leaves the bytes past its length"
pub record Writing (kind base rules : ℕ) (l : Lanes) (n : ℕ) (out out' : List ℕ) (number place size : ℕ) : Type 0 where
  pub verdict_is : verdict number place ≡ first (write_checks kind base rules l n (length out))
  pub length_is : size ≡ cond (write_done_lem kind base rules l n (length out)) (book_length_lem rules n) 0
  pub bytes_are : out' ≡ cond (write_done_lem kind base rules l n (length out)) (book_bytes kind base rules (rows_of l n) ++ drop (book_length_lem rules n) out) out
