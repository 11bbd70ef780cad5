-- What only the parts of the code cite.
use Rattle.std.specs.Prelude.{◌≡◌, Bool, true, false, Option, Some, None, Result, Ok, Err, List, ℕ, ◌≤◌, ◌<◌, length, get_or}
use Rattle.term.specs.declared.refusal.Refused.{Refused}
use Rattle.term.specs.Term.{sort_of}
use Rattle.table.specs.Rows.{Lanes, row_at, rows_of}
use Rattle.names.specs.Names.{Entry, NameLanes, text_at_lem}
use Rattle.nttext.specs.Texts.{is_legal_text}
use Rattle.ntriples.specs.Writing.{is_unwritable, file_bytes}

-- "Every refusal: length 0"
abbrev pub size_in : Result ℕ Refused → ℕ
size_in (Ok size) = size
size_in (Err e) = 0

-- each entry judged: whether its text is legal for its number's sort
pub record Marked (l : NameLanes) (names : ℕ) (marks : List Bool) : Type 0 where
  pub few : names ≤ 512
  pub many : length marks ≡ 512
  pub are : (k : ℕ) → k < names → get_or marks k false ≡ is_legal_text (sort_of (get_or l.terms k 0)) (text_at_lem l.ends l.text k)

abbrev pub lines_bytes : List Entry → Lanes → ℕ → List ℕ
lines_bytes es l count = file_bytes es (rows_of l count)

-- as many rows as the lanes have, which the table's check lets pass
pub record Judged (l : Lanes) (count : ℕ) : Type 0 where
  pub in_subj : count ≤ length l.subj
  pub in_pred : count ≤ length l.pred
  pub in_obj : count ≤ length l.obj
  pub in_ann : count ≤ length l.ann
  pub few : count ≤ 1024

-- the lowest row that cannot be written; `count` where all can
pub record Lowest (es : List Entry) (l : Lanes) (count r : ℕ) : Type 0 where
  pub within : r ≤ count
  pub passed : (i : ℕ) → i < r → is_unwritable es (row_at l i) ≡ false
  pub stops : r < count → is_unwritable es (row_at l r) ≡ true

-- it is found, or all can be written
abbrev pub FirstUnwritable : List Entry → Lanes → ℕ → Option ℕ → Type 0
FirstUnwritable es l count (Some r) = (r < count) × Lowest es l count r
FirstUnwritable es l count None = Lowest es l count count
