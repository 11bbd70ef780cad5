-- Where a key stands, or would go, in rows that ascend.
use Rattle.std.specs.Prelude.{◌≡◌, Bool, true, false, List, ℕ, suc, ◌-◌, ◌≤◌, ◌<◌, length}
use Rattle.table.specs.Rows.{Lanes, key_at}

-- row i is within the three lanes
pub record Within (subj pred obj : List ℕ) (i : ℕ) : Type 0 where
  pub in_subj : i < length subj
  pub in_pred : i < length pred
  pub in_obj : i < length obj

-- row i, and the first n rows, are within the four lanes
pub record RowWithin (l : Lanes) (i : ℕ) : Type 0 where
  pub in_subj : i < length l.subj
  pub in_pred : i < length l.pred
  pub in_obj : i < length l.obj
  pub in_ann : i < length l.ann

pub record RowsWithin (l : Lanes) (n : ℕ) : Type 0 where
  pub in_subj : n ≤ length l.subj
  pub in_pred : n ≤ length l.pred
  pub in_obj : n ≤ length l.obj
  pub in_ann : n ≤ length l.ann

-- the first n rows are within the three lanes, and ascend
pub record Ordered (subj pred obj : List ℕ) (n : ℕ) : Type 0 where
  pub in_subj : n ≤ length subj
  pub in_pred : n ≤ length pred
  pub in_obj : n ≤ length obj
  pub ascending : (i : ℕ) → suc i < n → key_at subj pred obj i < key_at subj pred obj (suc i)

-- r is the first of n rows whose key is not below k, or n
pub record Placed (subj pred obj : List ℕ) (n k r : ℕ) : Type 0 where
  pub within : r ≤ n
  pub before : (i : ℕ) → i < r → key_at subj pred obj i < k
  pub reached : r < n → k ≤ key_at subj pred obj r

-- whether `at` is that place
pub record IsPlace (subj pred obj : List ℕ) (n k at : ℕ) (r : Bool) : Type 0 where
  pub placed : r ≡ true → Placed subj pred obj n k at
  pub elsewhere : r ≡ false → Placed subj pred obj n k at → ⊥

-- whether row `at` is there and has the key k
pub record Stands (subj pred obj : List ℕ) (n at k : ℕ) (r : Bool) : Type 0 where
  pub there : r ≡ true → (at < n) × (k ≡ key_at subj pred obj at)
  pub missing : r ≡ false → at < n → k ≡ key_at subj pred obj at → ⊥

-- rows low up to high are in question: what is left out before them is below k, and what is left out behind them is not
pub record Between (subj pred obj : List ℕ) (n k low high : ℕ) : Type 0 where
  pub kept : low ≤ high
  pub within : high ≤ n
  pub before : (i : ℕ) → i < low → key_at subj pred obj i < k
  pub reached : high < n → k ≤ key_at subj pred obj high

-- strides go from `start` towards the first row: the rows from there on are not below k
pub record Striding (subj pred obj : List ℕ) (n k start : ℕ) : Type 0 where
  pub ordered : Ordered subj pred obj n
  pub between : Between subj pred obj n k 0 start

-- a halving of some rows leaves fewer
pub record Halving (subj pred obj : List ℕ) (n k low high : ℕ) : Type 0 where
  pub ordered : Ordered subj pred obj n
  pub some : low < high
  pub between : Between subj pred obj n k low high

pub record Halved (subj pred obj : List ℕ) (n k low high low' high' : ℕ) : Type 0 where
  pub fewer : high' - low' < high - low
  pub between : Between subj pred obj n k low' high'
