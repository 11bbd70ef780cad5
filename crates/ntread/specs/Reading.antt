-- Reading a file of N-Triples into a new table and a new names list.
use Rattle.std.specs.Prelude.{◌≡◌, Bool, true, false, not, cond, ◌||◌, List, [], ◌∷◌, ◌++◌, map, ℕ, suc, ◌+◌, ◌-◌, length, replicate, eqb, ltb}
use Rattle.term.specs.Refusal.{Check, refuse, verdict, first}
use Rattle.term.specs.declared.refusal.Verdict.{Verdict}
use Rattle.annotation.specs.Kinds.{kind_checks, annotation_checks}
use Rattle.table.specs.Rows.{Row, Lanes, filled}
use Rattle.table.specs.Checks.{is_unfit}
use Rattle.utf8.specs.Texts.{chars_of}
use Rattle.ntline.specs.Lines.{line_of, said_by}
use Rattle.names.specs.Names.{Entry, NameLanes, lanes_of, is_unfit_list}
use Rattle.names.specs.Entering.{bytes_of}
use Rattle.ntenter.specs.Line.{Read, refused, read_as, Room, read_line, room_of}

-- CR and LF
abbrev pub is_eol : ℕ → Bool
is_eol x = eqb x 0xD || eqb x 0xA

-- a line: where its first byte stands, and its bytes
pub record LineAt : Type 0 where
  pub place : ℕ
  pub bytes : List ℕ

abbrev pub line_at : ℕ → List ℕ → LineAt
line_at place bytes = record { place = place; bytes = bytes }

abbrev pub begins_line : List ℕ → Bool
begins_line [] = false
begins_line (x ∷ xs) = not (is_eol x)

-- a byte in front of the first of the lines
abbrev pub longer : ℕ → ℕ → List LineAt → List LineAt
longer at x [] = line_at at (x ∷ []) ∷ []
longer at x (l ∷ ls) = line_at at (x ∷ l.bytes) ∷ ls

-- "A line is a longest run of bytes other than CR and LF"; "an empty run is no line"
unfoldable pub lines_from : ℕ → List ℕ → List LineAt
lines_from at [] = []
lines_from at (x ∷ xs) =
    let more = lines_from (suc at) xs in
    cond (is_eol x) more (cond (begins_line xs) (longer at x more) (line_at at (x ∷ []) ∷ more))

-- "line by line"
unfoldable pub read_lines : ℕ → ℕ → Room → List LineAt → List Entry → List Row → Read
read_lines kind a room [] es rows = read_as es rows
read_lines kind a room (l ∷ ls) es rows =
    read_line kind a room l.place (said_by (line_of (chars_of l.bytes))) es rows (λ es₁ rows₁. read_lines kind a room ls es₁ rows₁)

-- "4 (kind), 11, 13 (the file over 65,535 bytes), 10 (annotation not legal in the kind)", and 28 directly behind it
abbrev pub lent_checks : ℕ → ℕ → List ℕ → Lanes → NameLanes → List Check
lent_checks kind a file l n =
    kind_checks kind 0
    ++ (refuse (is_unfit l || is_unfit_list n) 11 0
    ∷ refuse (ltb 65535 (length file)) 13 0
    ∷ annotation_checks kind a 0)

abbrev pub when_done : Bool → Verdict → (Unit {0} → Read) → Read
when_done true v next = next tt
when_done false v next = refused v.number v.place

unfoldable pub read_file : ℕ → ℕ → List ℕ → Lanes → NameLanes → Read
read_file kind a file l n =
    let v = first (lent_checks kind a file l n) in
    when_done (eqb v.number 0) v (λ _. read_lines kind a (room_of l n) (lines_from 0 file) [] [])

-- "11 and 13 change nothing"
abbrev pub is_kept : ℕ → ℕ → List ℕ → Lanes → NameLanes → Bool
is_kept kind a file l n =
    let number = (first (lent_checks kind a file l n)).number in
    eqb number 11 || eqb number 13

-- the list's lanes with these entries in front, one text behind another, and zeros behind them
unfoldable pub ends_from : ℕ → List Entry → List ℕ
ends_from at [] = []
ends_from at (e ∷ es) = (at + length e.text) ∷ ends_from (at + length e.text) es

unfoldable pub texts_of : List Entry → List ℕ
texts_of [] = []
texts_of (e ∷ es) = e.text ++ texts_of es

abbrev pub filled_names : List Entry → NameLanes → NameLanes
filled_names es n =
    lanes_of
    (map (λ (e : Entry). e.number) es ++ replicate (length n.terms - length es) 0)
    (ends_from 0 es ++ replicate (length n.ends - length es) 0)
    (texts_of es ++ replicate (length n.text - bytes_of es) 0)

-- "Done: .. rows in table order ..; rows past the count zero; terms and ends past names zero and text bytes past the last end zero";
-- refused otherwise: "every entry of every lent lane zero" (no entries and no rows are laid)
pub record ReadingTriples (kind a : ℕ) (file : List ℕ) (l m : Lanes) (n k : NameLanes) (number place count names : ℕ) : Type 0 where
  pub verdict_is : verdict number place ≡ (read_file kind a file l n).verdict_of
  pub count_is : count ≡ length (read_file kind a file l n).rows
  pub names_is : names ≡ length (read_file kind a file l n).entries
  pub lanes_are : m ≡ cond (is_kept kind a file l n) l (filled (read_file kind a file l n).rows l)
  pub list_is : k ≡ cond (is_kept kind a file l n) n (filled_names (read_file kind a file l n).entries n)
