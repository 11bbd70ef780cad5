-- Scaffolding, cited by inner contracts alone: how a table rises while conclusions are drawn by a set of rules R.
use Rattle.std.specs.Prelude.{◌≡◌, Bool, true, false, List, ◌⊎◌, ℕ, ◌≤◌, ◌<◌, length}
use Rattle.annotation.specs.Kinds.{algebra}
use Rattle.table.specs.Rows.{Triple, Row, Lanes, AsLong, rows_of, total}
use Rattle.table.specs.Sound.{Sound, SoundRows}
use Rattle.rhodf.specs.Graph.{Graph, graph_of, Valued, Below}
use Rattle.rhodf.specs.Rules.{Rules}
use Rattle.rhodf.specs.Closure.{Closed}

-- a closed graph above the rows
abbrev pub Above : Rules → ℕ → List Row → Graph → Type 0
Above R kind rows H = Valued (algebra kind) H × Closed (algebra kind) R H × Below (algebra kind) (graph_of rows) H

-- whatever is closed and above the rows is above these others
abbrev pub Entails : Rules → ℕ → List Row → List Row → Type 0
Entails R kind rows others = (H : Graph) → Above R kind rows H → Below (algebra kind) (graph_of others) H

-- more rows than there is room for follow: every closed graph above the rows has them
pub record Overflow (R : Rules) (kind room : ℕ) (rows : List Row) : Type 0 where
  pub others : List Row
  pub sound : SoundRows kind others
  pub long : room < length others
  pub entailed : Entails R kind rows others

-- from l and n to m and n': the table is raised, and no further than every closed graph above it
pub record Risen (R : Rules) (kind : ℕ) (l : Lanes) (n : ℕ) (m : Lanes) (full changed : Bool) (n' : ℕ) : Type 0 where
  pub sound : Sound kind m n'
  pub as_long : AsLong l m
  pub more : n ≤ n'
  pub up : Below (algebra kind) (graph_of (rows_of l n)) (graph_of (rows_of m n'))
  pub entailed : Entails R kind (rows_of l n) (rows_of m n')
  pub still : changed ≡ false → (m ≡ l) × (n' ≡ n)
  pub grows : changed ≡ true → total (rows_of l n) < total (rows_of m n')
  pub over : full ≡ true → Overflow R kind (length l.subj) (rows_of l n)

-- the table has risen, of no other subjects than those of S, and where nothing changed it is as Q says: what every level of a round promises
pub record Drew (R : Rules) (kind : ℕ) (S : ℕ → Type 0) (Q : Type 0) (l : Lanes) (n : ℕ) (m : Lanes) (full changed : Bool) (n' : ℕ) : Type 0 where
  pub risen : Risen R kind l n m full changed n'
  pub kept : (t : Triple) → (S t.s → ⊥) → graph_of (rows_of m n') t ≡ graph_of (rows_of l n) t
  pub inside : full ≡ false → changed ≡ false → Q

-- c is a or b
pub record Either (a b c : Bool) : Type 0 where
  pub neither : c ≡ false → (a ≡ false) × (b ≡ false)
  pub one : c ≡ true → (a ≡ true) ⊎ (b ≡ true)
