-- Putting a legal row into a sound table, for the calls that have checked both: what the lanes then hold.
use Rattle.std.specs.Prelude.{◌≡◌, Bool, true, false, List, ◌∷◌, ◌++◌, ℕ, ◌+◌, ◌-◌, ◌≤◌, ◌<◌, length, get_or, set, take, drop, ltb}
use Rattle.annotation.specs.Kinds.{algebra}
use Rattle.table.specs.Rows.{Row, Lanes, AsLong, key, row_at, rows_of, laid, total}
use Rattle.table.specs.Sound.{Sound, LegalRow}
use Rattle.table.specs.Places.{Placed}
use Rattle.table.specs.Adding.{rows_with}

-- a lane with room made at `at` for v, where n elements count: the rest moves up by one, over element n
unfoldable pub opened : {A : Type 0} → ℕ → ℕ → A → List A → List A
opened at n v l = take at l ++ v ∷ (take (n - at) (drop at l) ++ drop (n + 1) l)

-- a is joined to the annotation at `at`; r says whether that changed it
pub record JoinedAt (kind : ℕ) (ann : List ℕ) (at a : ℕ) (ann' : List ℕ) (r : Bool) : Type 0 where
  pub stored : ann' ≡ set ann at ((algebra kind).join (get_or ann at 0) a)
  pub same : r ≡ false → (algebra kind).join (get_or ann at 0) a ≡ get_or ann at 0
  pub other : r ≡ true → (algebra kind).join (get_or ann at 0) a ≡ get_or ann at 0 → ⊥

pub record PutInto (kind : ℕ) (r : Row) (l : Lanes) (n : ℕ) : Type 0 where
  pub sound : Sound kind l n
  pub legal : LegalRow kind r

-- the same, with the place of the row's key
pub record PutAt (kind : ℕ) (r : Row) (l : Lanes) (n at : ℕ) : Type 0 where
  pub into : PutInto kind r l n
  pub placed : Placed l.subj l.pred l.obj n (key r) at

-- full: the rows with r do not fit the lanes, and nothing is changed; else the lanes hold them
pub record Put (kind : ℕ) (r : Row) (l : Lanes) (n : ℕ) (m : Lanes) (full changed : Bool) (n' : ℕ) : Type 0 where
  pub as_long : AsLong l m
  pub more : n ≤ n'
  pub full_is : full ≡ ltb (length l.subj) (length (rows_with kind r l n))
  pub full_still : full ≡ true → changed ≡ false
  pub lanes_are : full ≡ false → m ≡ laid (rows_with kind r l n) l
  pub rows_are : full ≡ false → rows_of m n' ≡ rows_with kind r l n
  pub count_is : full ≡ false → n' ≡ length (rows_with kind r l n)
  pub still : changed ≡ false → (m ≡ l) × (n' ≡ n)
  pub grows : changed ≡ true → total (rows_of l n) < total (rows_of m n')
  pub rest : (i : ℕ) → n' ≤ i → row_at m i ≡ row_at l i
  pub sound : Sound kind m n'
