-- Writing a table and a names list as canonical N-Triples.
use Rattle.std.specs.Prelude.{◌≡◌, Bool, not, cond, ◌&&◌, ◌||◌, List, [], ◌∷◌, ◌++◌, ℕ, zero, suc, length, drop, eqb, ltb}
use Rattle.term.specs.Refusal.{Check, refuse, verdict, first}
use Rattle.term.specs.Term.{sort_of}
use Rattle.table.specs.Rows.{Row, Lanes, row_at, rows_of}
use Rattle.table.specs.Checks.{table_checks}
use Rattle.names.specs.Names.{Entry, NameLanes, entries_of, text_of, is_unfit_list}
use Rattle.ntwrite.specs.Written.{line_bytes}
use Rattle.nttext.specs.Texts.{is_legal_text}

-- "0 to 4: the five ..; another: the text of the first entry below names with that number, if its ends fit and its bytes are legal for
-- the term's sort; else it has no text" (an entry whose ends do not fit has the empty text, which is never legal)
abbrev pub has_text : List Entry → ℕ → Bool
has_text es n = is_legal_text (sort_of n) (text_of es n)

-- "39 at the lowest row whose subject is a literal, or of whose three terms one has no text"
abbrev pub is_unwritable : List Entry → Row → Bool
is_unwritable es r =
    eqb (sort_of r.s) 2 || not (has_text es r.s && (has_text es r.p && has_text es r.o))

-- n rows from row i on
unfoldable pub rows_writable : List Entry → Lanes → ℕ → ℕ → List Check
rows_writable es l i zero = []
rows_writable es l i (suc n) = refuse (is_unwritable es (row_at l i)) 39 i ∷ rows_writable es l (suc i) n

-- "row by row in table order"
unfoldable pub file_bytes : List Entry → List Row → List ℕ
file_bytes es [] = []
file_bytes es (r ∷ rs) = line_bytes es r.s r.p r.o ++ file_bytes es rs

-- "4, the table (11, 14, row by row 8, 9, 10, 28, 15 at the row), the list (11, then 14: names over its lanes' length), 39, 12"
abbrev pub write_checks : ℕ → Lanes → ℕ → NameLanes → ℕ → List ℕ → List Check
write_checks kind l count n names out =
    table_checks kind l count
    ++ (refuse (is_unfit_list n) 11 0
    ∷ refuse (ltb (length n.terms) names) 14 0
    ∷ rows_writable (entries_of n names) l 0 count
    ++ (refuse (ltb (length out) (length (file_bytes (entries_of n names) (rows_of l count)))) 12 0 ∷ []))

abbrev pub write_done_lem : ℕ → Lanes → ℕ → NameLanes → ℕ → List ℕ → Bool
write_done_lem kind l count n names out = eqb (first (write_checks kind l count n names out)).number 0

-- "Every refusal: length 0, output as it was"; "Done: 0, 0, length; bytes past it stay as they were"
pub record WritingTriples (kind : ℕ) (l : Lanes) (count : ℕ) (n : NameLanes) (names : ℕ) (out after : List ℕ) (number place size : ℕ) : Type 0 where
  pub verdict_is : verdict number place ≡ first (write_checks kind l count n names out)
  pub size_is : size ≡ cond (write_done_lem kind l count n names out) (length (file_bytes (entries_of n names) (rows_of l count))) 0
  pub out_is :
      let bytes = file_bytes (entries_of n names) (rows_of l count) in
      after ≡ cond (write_done_lem kind l count n names out) (bytes ++ drop (length bytes) out) out
