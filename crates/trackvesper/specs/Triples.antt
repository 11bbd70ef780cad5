-- The exported calls for makers' lists: a file into a new table and a new names list, and a table and a names list out.
use Rattle.std.specs.Prelude.{◌≡◌, cond, List, ◌++◌, ℕ, ◌+◌, ◌*◌, length, drop, eqb}
use Rattle.term.specs.Refusal.{first}
use Rattle.term.specs.declared.refusal.Verdict.{Verdict}
use Rattle.table.specs.Rows.{Lanes, rows_of, filled}
use Rattle.names.specs.Names.{NameLanes, entries_of}
use Rattle.ntread.specs.Reading.{read_file, is_kept, filled_names}
use Rattle.ntriples.specs.Writing.{write_checks, write_done_lem, file_bytes}
use Rattle.trackvesper.specs.ClosedBook.{packed}

-- "the answer is one u64: number x 2^32 + place when refused"
abbrev pub answered : Verdict → ℕ → ℕ
answered v rest = cond (eqb v.number 0) rest (packed v.number v.place)

-- "done, names x 2^16 + count"
abbrev pub a_name : ℕ
a_name = 65536

-- as `ReadingTriples`, the four numbers in one word
pub record ReadTriplesExported (kind a : ℕ) (file : List ℕ) (l m : Lanes) (n k : NameLanes) (r : ℕ) : Type 0 where
  pub answer_is :
      let what = read_file kind a file l n in
      r ≡ answered what.verdict_of (length what.entries * a_name + length what.rows)
  pub lanes_are : m ≡ cond (is_kept kind a file l n) l (filled (read_file kind a file l n).rows l)
  pub list_is : k ≡ cond (is_kept kind a file l n) n (filled_names (read_file kind a file l n).entries n)

-- as `WritingTriples`, the three numbers in one word: "or the length"
pub record WriteTriplesExported (kind : ℕ) (l : Lanes) (count : ℕ) (n : NameLanes) (names : ℕ) (out after : List ℕ) (r : ℕ) : Type 0 where
  pub answer_is : r ≡ answered (first (write_checks kind l count n names out)) (length (file_bytes (entries_of n names) (rows_of l count)))
  pub out_is :
      let bytes = file_bytes (entries_of n names) (rows_of l count) in
      after ≡ cond (write_done_lem kind l count n names out) (bytes ++ drop (length bytes) out) out
