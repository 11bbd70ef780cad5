-- Scaffolding, cited by inner contracts alone: what a row, a round, and rounds until nothing waits promise.
use Rattle.std.specs.Prelude.{◌≡◌, Bool, true, false, List, ℕ, ◌<◌, Result, Ok, Err}
use Rattle.ground.specs.Lists.{All}
use Rattle.annotation.specs.Kinds.{algebra}
use Rattle.annotation.specs.Numbered.{kind_number}
use Rattle.table.specs.declared.lent.Table.{Table}
use Rattle.table.specs.declared.put.Done.{Done}
use Rattle.table.specs.declared.put.Full.{Full}
use Rattle.table.specs.Rows.{Triple, triple, Lanes, row_at, rows_of}
use Rattle.table.specs.Sound.{Sound}
use Rattle.table.specs.Lent.{lanes_in}
use Rattle.rhodf.specs.Graph.{graph_of}
use Rattle.rhodf.specs.Rules.{Rules}
use Rattle.rhodf.specs.Closure.{Closed}
use Rattle.plans.specs.declared.Plan.{Plan}
use Rattle.plans.specs.Plans.{Obeyed}
use Rattle.termset.specs.Termset.{holds, Among}
use Rattle.walks.specs.Rising.{Risen, Drew}
use Rattle.rounds.specs.declared.RowDone.{RowDone}
use Rattle.rounds.specs.declared.Sets.{Sets}
use Rattle.rounds.specs.declared.Turn.{Turn}
use Rattle.rounds.specs.Due.{number_of, one_of, Idle, Quiet, OfRow}

-- row i obeys its plans in the table's graph
abbrev pub triple_at : Lanes → ℕ → Triple
triple_at l i = triple (row_at l i).s (row_at l i).p (row_at l i).o

abbrev pub RowObeyed : (Triple → List Plan) → ℕ → Lanes → ℕ → ℕ → Type 0
RowObeyed plans kind l n i = All (λ plan. Obeyed (algebra kind) (graph_of (rows_of l n)) plan (row_at l i).a) (plans (triple_at l i))

pub record RowOfTable (kind : ℕ) (l : Lanes) (n i : ℕ) : Type 0 where
  pub sound : Sound kind l n
  pub there : i < n

abbrev pub RowDrawn : Rules → (Triple → List Plan) → ℕ → Lanes → ℕ → ℕ → Lanes → Bool → Bool → Bool → Bool → ℕ → Type 0
RowDrawn R plans kind l n i m full changed other third n' = Drew R kind (OfRow (triple_at l i) other third) (RowObeyed plans kind l n i) l n m full changed n'

-- a row is asked; what rose is in the set `rose`, and the row itself too where it changed anything
pub record RowAsked (R : Rules) (plans : Triple → List Plan) (kind : ℕ) (l : Lanes) (n i : ℕ) (m : Lanes) (full changed : Bool) (n' : ℕ)
    (due due' rose rose' : List ℕ) : Type 0 where
  pub drew : Drew R kind (λ x. holds rose' x ≡ true) (RowObeyed plans kind l n i) l n m full changed n'
  pub due_more : Among due due'
  pub rose_more : Among rose rose'
  pub again : changed ≡ true → holds rose' (row_at l i).s ≡ true
  pub same : changed ≡ false → rose' ≡ rose

-- a row that is not due obeys its plans, unless it meets what waits
pub record RoundDue (plans : Triple → List Plan) (turn one kind : ℕ) (l : Lanes) (n : ℕ) (due rose : List ℕ) : Type 0 where
  pub sound : Sound kind l n
  pub settled : (j : ℕ) → j < n → Idle turn one due (triple_at l j) → Quiet rose (graph_of (rows_of l n)) (triple_at l j) → RowObeyed plans kind l n j

-- every row obeys its plans, unless it meets what waits: what waited before, and what rose; where nothing rose, the set is as it was
pub record RoundDrawn (R : Rules) (plans : Triple → List Plan) (kind : ℕ) (l : Lanes) (n : ℕ) (m : Lanes) (full changed : Bool) (n' : ℕ)
    (rose rose' : List ℕ) : Type 0 where
  pub risen : Risen R kind l n m full changed n'
  pub same : changed ≡ false → rose' ≡ rose
  pub settled : full ≡ false → (j : ℕ) → j < n' → Quiet rose' (graph_of (rows_of m n')) (triple_at m j) → RowObeyed plans kind m n' j

-- every row obeys its plans, unless it meets what waits
pub record Waiting (plans : Triple → List Plan) (kind : ℕ) (l : Lanes) (n : ℕ) (rose : List ℕ) : Type 0 where
  pub sound : Sound kind l n
  pub settled : (j : ℕ) → j < n → Quiet rose (graph_of (rows_of l n)) (triple_at l j) → RowObeyed plans kind l n j

-- nothing waits, or what follows does not fit
pub record Saturated (R : Rules) (kind : ℕ) (l : Lanes) (n : ℕ) (m : Lanes) (full : Bool) (n' : ℕ) : Type 0 where
  pub changed : Bool
  pub risen : Risen R kind l n m full changed n'
  pub closed : full ≡ false → Closed (algebra kind) R (graph_of (rows_of m n'))

-- ---- the same of a table that is lent to be changed: t where the call begins, and u where it ends

abbrev pub RowIn : ℕ → Table → Type 0
RowIn i t = RowOfTable (kind_number t.kind) (lanes_in t) t.count i

-- a row found no room; what the sets then hold does not matter
abbrev pub Overfull : Rules → Table → Table → Type 0
Overfull R t u = (changed : Bool) × Risen R (kind_number t.kind) (lanes_in t) t.count (lanes_in u) true changed u.count

abbrev pub RowDrawnIn : Rules → (Triple → List Plan) → ℕ → Table → Table → Result RowDone Full → Type 0
RowDrawnIn R plans i t u (Ok d) = RowDrawn R plans (kind_number t.kind) (lanes_in t) t.count i (lanes_in u) false d.changed d.other d.third u.count
RowDrawnIn R plans i t u (Err e) = Overfull R t u

-- of sets s where the call begins, and v where it ends
abbrev pub RowAskedIn : Rules → (Triple → List Plan) → ℕ → Table → Table → Sets → Sets → Result Done Full → Type 0
RowAskedIn R plans i t u s v (Ok d) = RowAsked R plans (kind_number t.kind) (lanes_in t) t.count i (lanes_in u) false d.changed u.count s.due v.due s.rose v.rose
RowAskedIn R plans i t u s v (Err e) = Overfull R t u

abbrev pub RoundDueIn : (Triple → List Plan) → Turn → Table → Sets → Type 0
RoundDueIn plans turn t s = RoundDue plans (number_of turn) (one_of turn) (kind_number t.kind) (lanes_in t) t.count s.due s.rose

abbrev pub RoundDrawnIn : Rules → (Triple → List Plan) → Table → Table → Sets → Sets → Result Done Full → Type 0
RoundDrawnIn R plans t u s v (Ok d) = RoundDrawn R plans (kind_number t.kind) (lanes_in t) t.count (lanes_in u) false d.changed u.count s.rose v.rose
RoundDrawnIn R plans t u s v (Err e) = Overfull R t u

abbrev pub WaitingIn : (Triple → List Plan) → Table → Sets → Type 0
WaitingIn plans t s = Waiting plans (kind_number t.kind) (lanes_in t) t.count s.rose

abbrev pub SaturatedIn : {A : Type 0} → Rules → Table → Table → Result A Full → Type 0
SaturatedIn R t u (Ok x) = Saturated R (kind_number t.kind) (lanes_in t) t.count (lanes_in u) false u.count
SaturatedIn R t u (Err e) = Saturated R (kind_number t.kind) (lanes_in t) t.count (lanes_in u) true u.count
