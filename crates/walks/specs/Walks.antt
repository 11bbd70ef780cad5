-- Scaffolding, cited by inner contracts alone: what is drawn by a conclusion, a row that a plan meets, and a plan.
use Rattle.std.specs.Prelude.{◌≡◌, Bool, true, false, List, ℕ, ◌≤◌, ◌<◌, length, get_or, Result, Ok, Err}
use Rattle.term.specs.Term.{is_legal_term}
use Rattle.annotation.specs.Algebra.{AtMost}
use Rattle.annotation.specs.Kinds.{algebra}
use Rattle.annotation.specs.Numbered.{kind_number}
use Rattle.table.specs.declared.lent.Table.{Table}
use Rattle.table.specs.declared.put.Done.{Done}
use Rattle.table.specs.Rows.{triple, Row, Lanes, row_at, rows_of}
use Rattle.table.specs.Sound.{Sound}
use Rattle.table.specs.Lent.{lanes_in}
use Rattle.rhodf.specs.Graph.{Graph, graph_of}
use Rattle.rhodf.specs.Rules.{Rules, Drawn}
use Rattle.plans.specs.declared.Plan.{Plan}
use Rattle.plans.specs.declared.Plan.TheVariants.{Off, Rows, Alone}
use Rattle.plans.specs.declared.Each.{Each}
use Rattle.plans.specs.Plans.{subject_of_each, object_of_each, LegalPlan, Met, Obeyed}
use Rattle.walks.specs.declared.Stopped.{Stopped}
use Rattle.walks.specs.Rising.{Above, Drew}

-- a conclusion that every closed graph above the table has
pub record Concluded (R : Rules) (kind : ℕ) (r : Row) (l : Lanes) (n : ℕ) : Type 0 where
  pub sound : Sound kind l n
  pub subject : is_legal_term r.s ≡ true
  pub object : is_legal_term r.o ≡ true
  pub value : (algebra kind).Value r.a
  pub follows : Drawn (triple r.s r.p r.o) → (H : Graph) → Above R kind (rows_of l n) H
      → AtMost (algebra kind) r.a (H (triple r.s r.p r.o))

-- one subject alone
abbrev pub OfOne : ℕ → ℕ → Type 0
OfOne s x = x ≡ s

-- it is at most its value
abbrev pub Raised : Rules → ℕ → Row → Lanes → ℕ → Lanes → Bool → Bool → ℕ → Type 0
Raised R kind r l n m full changed n' =
    Drew R kind (OfOne r.s) (Drawn (triple r.s r.p r.o) → AtMost (algebra kind) r.a (graph_of (rows_of l n) (triple r.s r.p r.o))) l n m full changed n'

-- the subject of all that a plan gives
abbrev pub OfPlan : Plan → ℕ → Type 0
OfPlan Off x = ⊥
OfPlan (Rows q r each) x = x ≡ subject_of_each each
OfPlan (Alone s p o) x = x ≡ s

-- a plan that every closed graph above the table obeys
pub record Planned (R : Rules) (kind : ℕ) (plan : Plan) (a : ℕ) (l : Lanes) (n : ℕ) : Type 0 where
  pub sound : Sound kind l n
  pub legal : LegalPlan plan
  pub value : (algebra kind).Value a
  pub sure : (H : Graph) → Above R kind (rows_of l n) H → Obeyed (algebra kind) H plan a

-- it is carried out
abbrev pub Walked : Rules → ℕ → Plan → ℕ → Lanes → ℕ → Lanes → Bool → Bool → ℕ → Type 0
Walked R kind plan a l n m full changed n' = Drew R kind (OfPlan plan) (Obeyed (algebra kind) (graph_of (rows_of l n)) plan a) l n m full changed n'

-- n rows are within the two lanes
pub record WithinTwo (subj pred : List ℕ) (n : ℕ) : Type 0 where
  pub in_subj : n ≤ length subj
  pub in_pred : n ≤ length pred

-- whether row i is there and begins with q and r
pub record Begins (subj pred : List ℕ) (n i q r : ℕ) (b : Bool) : Type 0 where
  pub there : b ≡ true → (i < n) × (get_or subj i 0 ≡ q) × (get_or pred i 0 ≡ r)
  pub missing : b ≡ false → i < n → get_or subj i 0 ≡ q → get_or pred i 0 ≡ r → ⊥

-- a plan meets a row with the object z, and every closed graph above the table has what that is to give, where the premises so far meet in c
pub record Meeting (R : Rules) (kind : ℕ) (each : Each) (z c : ℕ) (l : Lanes) (n : ℕ) : Type 0 where
  pub sound : Sound kind l n
  pub subject : is_legal_term (subject_of_each each) ≡ true
  pub object : is_legal_term (object_of_each each) ≡ true
  pub met : is_legal_term z ≡ true
  pub value : (algebra kind).Value c
  pub sure : (H : Graph) → Above R kind (rows_of l n) H → Met (algebra kind) H each z c

-- it is at most its value
abbrev pub MeetingDrawn : Rules → ℕ → Each → ℕ → ℕ → Lanes → ℕ → Lanes → Bool → Bool → ℕ → Type 0
MeetingDrawn R kind each z c l n m full changed n' = Drew R kind (OfOne (subject_of_each each)) (Met (algebra kind) (graph_of (rows_of l n)) each z c) l n m full changed n'

-- what row k is to give, where it begins with q and r, is at most its value
abbrev pub RowMet : ℕ → ℕ → ℕ → Each → ℕ → Lanes → ℕ → ℕ → Type 0
RowMet kind q r each a l n k =
    (row_at l k).s ≡ q → (row_at l k).p ≡ r → Met (algebra kind) (graph_of (rows_of l n)) each (row_at l k).o ((algebra kind).meet a (row_at l k).a)

-- ---- the same of a table that is lent to be changed: t where the call begins, and u where it ends

abbrev pub ConcludedIn : Rules → Row → Table → Type 0
ConcludedIn R r t = Concluded R (kind_number t.kind) r (lanes_in t) t.count

-- what is answered, of P over "full" and "changed"
abbrev pub Answered : (Bool → Bool → Type 0) → Result Done Stopped → Type 0
Answered P (Ok d) = P false d.changed
Answered P (Err e) = P true e.changed

-- where a row found no room, nothing changed before
abbrev pub FullAtOnce : Result Done Stopped → Type 0
FullAtOnce (Ok d) = Unit {0}
FullAtOnce (Err e) = e.changed ≡ false

abbrev pub RaisedIn : Rules → Row → Table → Table → Result Done Stopped → Type 0
RaisedIn R r t u x =
    Answered (λ full changed. Raised R (kind_number t.kind) r (lanes_in t) t.count (lanes_in u) full changed u.count) x × FullAtOnce x

abbrev pub PlannedIn : Rules → Plan → ℕ → Table → Type 0
PlannedIn R plan a t = Planned R (kind_number t.kind) plan a (lanes_in t) t.count

abbrev pub WalkedIn : Rules → Plan → ℕ → Table → Table → Result Done Stopped → Type 0
WalkedIn R plan a t u = Answered (λ full changed. Walked R (kind_number t.kind) plan a (lanes_in t) t.count (lanes_in u) full changed u.count)

abbrev pub MeetingIn : Rules → Each → ℕ → ℕ → Table → Type 0
MeetingIn R each z c t = Meeting R (kind_number t.kind) each z c (lanes_in t) t.count

abbrev pub MeetingDrawnIn : Rules → Each → ℕ → ℕ → Table → Table → Result Done Stopped → Type 0
MeetingDrawnIn R each z c t u = Answered (λ full changed. MeetingDrawn R (kind_number t.kind) each z c (lanes_in t) t.count (lanes_in u) full changed u.count)
