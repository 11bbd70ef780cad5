-- The exported call: a book in, the closed book out.
use Rattle.std.specs.Prelude.{◌≡◌, List, ◌++◌, ℕ, ◌+◌, ◌*◌, ◌≤◌, ◌<◌, length, drop, replicate}
use Rattle.table.specs.Rows.{Row, Lanes, lanes}
use Rattle.rhodf.specs.Rules.{rules_of}
use Rattle.rhodf.specs.Closure.{ClosureOf}
use Rattle.book.specs.Format.{book_bytes}
use Rattle.book.specs.Reading.{Read, reading}
use Rattle.book.specs.Writing.{book_length_lem}

-- room for 1,024 rows
abbrev pub fresh_lanes : Lanes
fresh_lanes = lanes (replicate 1024 0) (replicate 1024 0) (replicate 1024 0) (replicate 1024 0)

-- what the book says
abbrev pub said : List ℕ → Read
said b = reading b fresh_lanes

-- "number x 2^32 + length written (or place)"
abbrev pub a_number : ℕ
a_number = 4294967296

abbrev pub packed : ℕ → ℕ → ℕ
packed number rest = number * a_number + rest

-- "one exported call takes a book and writes the closed book", under the book's rule set; "on refusal its output bytes are untouched"
pub record ClosedBook (b out out' : List ℕ) (r : ℕ) : Type 0 where
  -- the book is refused
  pub unread : 0 < (said b).verdict_of.number → (r ≡ packed (said b).verdict_of.number (said b).verdict_of.place) × (out' ≡ out)
  -- what follows from it has more rows than there is room for, or does not fit the output as a book
  pub no_room : (said b).verdict_of.number ≡ 0 → (closed : List Row) → ClosureOf (said b).kind (rules_of (said b).rules) (said b).rows closed
      → 1024 < length closed → (r ≡ packed 12 0) × (out' ≡ out)
  pub no_space : (said b).verdict_of.number ≡ 0 → (closed : List Row) → ClosureOf (said b).kind (rules_of (said b).rules) (said b).rows closed
      → length closed ≤ 1024 → length out < book_length_lem (said b).rules (length closed) → (r ≡ packed 12 0) × (out' ≡ out)
  -- it is written as a book
  pub written : (said b).verdict_of.number ≡ 0 → (closed : List Row) → ClosureOf (said b).kind (rules_of (said b).rules) (said b).rows closed
      → length closed ≤ 1024 → book_length_lem (said b).rules (length closed) ≤ length out
      → (r ≡ packed 0 (book_length_lem (said b).rules (length closed)))
      × (out' ≡ book_bytes (said b).kind (said b).base (said b).rules closed ++ drop (book_length_lem (said b).rules (length closed)) out)
