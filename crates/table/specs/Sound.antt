-- What a sound table is.
use Rattle.std.specs.Prelude.{◌≡◌, true, List, [], ◌∷◌, ℕ, suc, ◌≤◌, ◌<◌, length}
use Rattle.term.specs.Term.{is_legal_term, is_name_lem}
use Rattle.annotation.specs.Kinds.{is_kind, is_legal}
use Rattle.table.specs.Rows.{Row, Lanes, most_rows, row_at, key}

-- "Only 65,535 stays illegal .. a predicate is still a name" (C-17); its annotation is legal
pub record LegalRow (kind : ℕ) (r : Row) : Type 0 where
  pub subject : is_legal_term r.s ≡ true
  pub predicate : is_name_lem r.p ≡ true
  pub object : is_legal_term r.o ≡ true
  pub annotation : is_legal kind r.a ≡ true

-- "A table is four lanes of equal length, at most 1,024 .., and a count.
-- The first 'count' rows are legal and strictly ascending by subject, then predicate, then object."
pub record Sound (kind : ℕ) (l : Lanes) (n : ℕ) : Type 0 where
  pub kind_known : is_kind kind ≡ true
  pub pred_long : length l.pred ≡ length l.subj
  pub obj_long : length l.obj ≡ length l.subj
  pub ann_long : length l.ann ≡ length l.subj
  pub long : length l.subj ≤ most_rows
  pub within : n ≤ length l.subj
  pub legal : (i : ℕ) → i < n → LegalRow kind (row_at l i)
  pub ascending : (i : ℕ) → suc i < n → key (row_at l i) < key (row_at l (suc i))

-- the same of a list of rows: every key above k, keys ascending, rows legal
unfoldable pub Over : ℕ → List Row → Type 0
Over k [] = Unit {0}
Over k (x ∷ xs) = (k < key x) × Over k xs

unfoldable pub Ascending : List Row → Type 0
Ascending [] = Unit {0}
Ascending (x ∷ xs) = Over (key x) xs × Ascending xs

unfoldable pub AllLegal : ℕ → List Row → Type 0
AllLegal kind [] = Unit {0}
AllLegal kind (x ∷ xs) = LegalRow kind x × AllLegal kind xs

pub record SoundRows (kind : ℕ) (rows : List Row) : Type 0 where
  pub ascending : Ascending rows
  pub legal : AllLegal kind rows
