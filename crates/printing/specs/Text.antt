-- The text that the programs print, as bytes: words and decimal numbers with single blanks between them, a line feed behind each line.
use Rattle.std.specs.Prelude.{Bool, true, false, List, [], ◌∷◌, ◌++◌, ℕ, zero, suc, ◌+◌, ◌/◌, ◌%◌, length, ltb}
use Prim.Native.Char.{code}
use Prim.Native.String.{String, len, char_at}
use Rattle.ground.specs.Lists.{tab, each}
use Rattle.table.specs.Rows.{Row}

-- a text of plain characters, a byte each
unfoldable pub bytes_of : String → List ℕ
bytes_of s = tab (len s) (λ i. code (char_at s i))

-- "in decimal": the digits before the last one, if there are any, and the last
abbrev pub unless_digit : Bool → (Unit {0} → List ℕ) → List ℕ
unless_digit true tens = []
unless_digit false tens = tens tt

unfoldable pub decimal_in : ℕ → ℕ → List ℕ
decimal_in zero n = []
decimal_in (suc places) n = unless_digit (ltb n 10) (λ _. decimal_in places (n / 10)) ++ ((48 + n % 10) ∷ [])

-- a number of 64 bits has at most 20 digits
unfoldable pub decimal : ℕ → List ℕ
decimal n = decimal_in 20 n

-- a number behind a blank
abbrev pub behind_blank : ℕ → List ℕ
behind_blank n = 32 ∷ decimal n

abbrev pub line_feed : List ℕ
line_feed = 10 ∷ []

-- a word or a number, numbers behind single blanks, a line feed
unfoldable pub line : List ℕ → List ℕ → List ℕ
line first numbers = first ++ each behind_blank numbers ++ line_feed

-- ---- both programs

-- "A refusal prints `refused NUMBER PLACE`"
abbrev pub refused_line : ℕ → ℕ → List ℕ
refused_line number place = line (bytes_of "refused") (number ∷ place ∷ [])

-- ---- the closing program

-- "header (kind, base year, rows)"
abbrev pub closed_line : ℕ → ℕ → ℕ → List ℕ
closed_line kind base rows = line (bytes_of "closed") (kind ∷ base ∷ rows ∷ [])

-- "subject, predicate, object, annotation in decimal"
abbrev pub row_line : ℕ → ℕ → ℕ → ℕ → List ℕ
row_line s p o a = line (decimal s) (p ∷ o ∷ a ∷ [])

abbrev pub line_of : Row → List ℕ
line_of r = row_line r.s r.p r.o r.a

abbrev pub row_lines : List Row → List ℕ
row_lines rows = each line_of rows

-- "header .., then subject, predicate, object, annotation"
abbrev pub closed_listing : ℕ → ℕ → List Row → List ℕ
closed_listing kind base rows = closed_line kind base (length rows) ++ row_lines rows

-- ---- the counter

-- "`asked NUMBER PLACE COUNT LOOKS`"
abbrev pub asked_line : ℕ → ℕ → ℕ → ℕ → List ℕ
asked_line number place count looks = line (bytes_of "asked") (number ∷ place ∷ count ∷ looks ∷ [])

-- a line of numbers alone
unfoldable pub numbers_line : List ℕ → List ℕ
numbers_line [] = line_feed
numbers_line (n ∷ ns) = line (decimal n) ns

-- "a line each, the answers' 16 terms and 8 annotations"
abbrev pub answer_line : List ℕ → List ℕ → List ℕ
answer_line terms anns = numbers_line (terms ++ anns)
