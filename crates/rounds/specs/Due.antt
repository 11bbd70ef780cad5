-- Scaffolding, cited by inner contracts alone: which rows can meet one that rose, by the sets of the subjects that did.
use Rattle.std.specs.Prelude.{◌≡◌, Bool, true, false, List, ◌⊎◌, ℕ, ◌+◌, ◌≤◌, ◌<◌, Option, Some, None, get_or}
use Rattle.term.specs.Term.{sp, dom, range}
use Rattle.table.specs.Rows.{Triple, triple, Lanes, rows_of}
use Rattle.rhodf.specs.Graph.{Graph, graph_of}
use Rattle.termset.specs.Termset.{holds, Among}
use Rattle.rounds.specs.declared.Turn.{Turn}
use Rattle.rounds.specs.declared.Turn.TheVariants.{Down, Up, One}

-- the turns of a round by number: down and up by the set of what is due, and up by one subject
abbrev pub number_of : Turn → ℕ
number_of Down = 0
number_of Up = 1
number_of (One one) = 2

-- the one
abbrev pub one_of : Turn → ℕ
one_of (One one) = one
one_of Down = 0
one_of Up = 0

-- of a row of t: its own subject, its predicate and, where it is of sp, sc or type, its object are not in the set
pub record Still (set : List ℕ) (t : Triple) : Type 0 where
  pub self : holds set t.s ≡ false
  pub by_predicate : holds set t.p ≡ false
  pub by_object : t.p < dom → holds set t.o ≡ false

-- nor are they this one
pub record Away (one : ℕ) (t : Triple) : Type 0 where
  pub self : t.s ≡ one → ⊥
  pub by_predicate : t.p ≡ one → ⊥
  pub by_object : t.p < dom → t.o ≡ one → ⊥

-- a row of t is not due in a round: by the set where the turn is 0 or 1, else by one subject
pub record Idle (turn one : ℕ) (due : List ℕ) (t : Triple) : Type 0 where
  pub by_set : turn ≤ 1 → Still due t
  pub by_one : 1 < turn → Away one t

-- z has a domain or a range
abbrev pub Typed : Graph → ℕ → Type 0
Typed G z = (w : ℕ) × ((0 < G (triple z dom w)) ⊎ (0 < G (triple z range w)))

-- in the graph, neither a row of t nor a row that it can meet has a subject of the set: of its predicate, of its object where it is of
-- sp, sc or type, or of an A that has domains or ranges, with (D sp A) for its predicate D
pub record Quiet (set : List ℕ) (G : Graph) (t : Triple) : Type 0 where
  pub self : holds set t.s ≡ false
  pub by_predicate : (r w : ℕ) → 0 < G (triple t.p r w) → holds set t.p ≡ false
  pub by_object : t.p < dom → (r w : ℕ) → 0 < G (triple t.o r w) → holds set t.o ≡ false
  pub behind : (z : ℕ) → 0 < G (triple t.p sp z) → Typed G z → holds set z ≡ false

pub record MeetsNone (set : List ℕ) (t : Triple) (r : Bool) : Type 0 where
  pub none : r ≡ false → Still set t

pub record MeetsNotOne (one : ℕ) (t : Triple) (r : Bool) : Type 0 where
  pub none : r ≡ false → Away one t

-- the subjects that asking a row of t may raise: its own, its object where `other`, and its predicate where `third`
abbrev pub OfRow : Triple → Bool → Bool → ℕ → Type 0
OfRow t other third x = (x ≡ t.s) ⊎ (((other ≡ true) × (x ≡ t.o)) ⊎ ((third ≡ true) × (x ≡ t.p)))

-- r keeps what was told, and tells it of a plan that gave rows of the subject t
pub record RoseAt (told changed : Bool) (s t : ℕ) (r : Bool) : Type 0 where
  pub keeps : told ≡ true → r ≡ true
  pub tells : changed ≡ true → s ≡ t → r ≡ true

-- both sets have grown, and x, y and d are in `rose` where they rose; where nothing did it is as it was
pub record Marked (changed other third : Bool) (x y d : ℕ) (due due' rose rose' : List ℕ) : Type 0 where
  pub due_more : Among due due'
  pub rose_more : Among rose rose'
  pub self : changed ≡ true → holds rose' x ≡ true
  pub beside : changed ≡ true → other ≡ true → holds rose' y ≡ true
  pub above : changed ≡ true → third ≡ true → holds rose' d ≡ true
  pub same : changed ≡ false → rose' ≡ rose

-- whether d is sp and y in the set
pub record Leads (set : List ℕ) (d y : ℕ) (r : Bool) : Type 0 where
  pub leads : d ≡ sp → holds set y ≡ true → r ≡ true

-- P is so of the rows from `from` up to n
abbrev pub EachFrom : (ℕ → Type 0) → ℕ → ℕ → Type 0
EachFrom P from n = (j : ℕ) → from ≤ j → j < n → P j

-- row `at` is one of them, and P is so of those before it
pub record NextAt (P : ℕ → Type 0) (from n at : ℕ) : Type 0 where
  pub reached : from ≤ at
  pub there : at < n
  pub before : EachFrom P from at

-- the next row of them, or P is so of all
abbrev pub Next : (ℕ → Type 0) → ℕ → ℕ → Option ℕ → Type 0
Next P from n None = EachFrom P from n
Next P from n (Some at) = NextAt P from n at

abbrev pub StillAt : List ℕ → List ℕ → List ℕ → List ℕ → ℕ → Type 0
StillAt subj pred obj due j = Still due (triple (get_or subj j 0) (get_or pred j 0) (get_or obj j 0))

abbrev pub AwayAt : List ℕ → List ℕ → List ℕ → ℕ → ℕ → Type 0
AwayAt subj pred obj one j = Away one (triple (get_or subj j 0) (get_or pred j 0) (get_or obj j 0))

-- the next row that is due, and the next that has this one
abbrev pub NextDue : List ℕ → List ℕ → List ℕ → ℕ → ℕ → List ℕ → Option ℕ → Type 0
NextDue subj pred obj from n due r = Next (StillAt subj pred obj due) from n r

abbrev pub NextOf : List ℕ → List ℕ → List ℕ → ℕ → ℕ → ℕ → Option ℕ → Type 0
NextOf subj pred obj from n one r = Next (AwayAt subj pred obj one) from n r

-- r is `from` or behind it, and the rows from there up to it have not this one
pub record PastOf (subj pred obj : List ℕ) (from one r : ℕ) : Type 0 where
  pub reached : from ≤ r
  pub none : EachFrom (AwayAt subj pred obj one) from r

-- where r is false, no row from `at` up to i has this one
pub record BlockAway (subj pred obj : List ℕ) (at i one : ℕ) (r : Bool) : Type 0 where
  pub none : r ≡ false → (j : ℕ) → at ≤ j → j < i → Away one (triple (get_or subj j 0) (get_or pred j 0) (get_or obj j 0))

-- row `at` is before `from`, and the rows between are not due
pub record LastAt (subj pred obj : List ℕ) (from : ℕ) (due : List ℕ) (at : ℕ) : Type 0 where
  pub reached : at < from
  pub behind : (j : ℕ) → at < j → j < from → StillAt subj pred obj due j

-- the last row before `from` that is due
abbrev pub LastDue : List ℕ → List ℕ → List ℕ → ℕ → List ℕ → Option ℕ → Type 0
LastDue subj pred obj from due None = EachFrom (StillAt subj pred obj due) 0 from
LastDue subj pred obj from due (Some at) = LastAt subj pred obj from due at

-- row j is to come, where a round that goes up (its turn is not 0) has come to row i, and one that goes down to the row before it
pub record ToCome (turn i j : ℕ) : Type 0 where
  pub up : 0 < turn → i ≤ j
  pub down : turn ≡ 0 → j < i

-- row j is row `at`, or comes after it in the round
pub record NotBefore (turn at j : ℕ) : Type 0 where
  pub up : 0 < turn → at ≤ j
  pub down : turn ≡ 0 → j ≤ at

-- a round that goes down begins among the rows
pub record Seeking (turn n from : ℕ) : Type 0 where
  pub down : turn ≡ 0 → from ≤ n

-- row j is not due in the round
abbrev pub IdleAt : List ℕ → List ℕ → List ℕ → ℕ → ℕ → List ℕ → ℕ → Type 0
IdleAt subj pred obj turn one due j = Idle turn one due (triple (get_or subj j 0) (get_or pred j 0) (get_or obj j 0))

-- row `at` is one of those that are to come, and those before it are not due
pub record SoughtAt (subj pred obj : List ℕ) (turn one n from : ℕ) (due : List ℕ) (at : ℕ) : Type 0 where
  pub there : at < n
  pub reached : ToCome turn from at
  pub rest : (j : ℕ) → j < n → ToCome turn from j → NotBefore turn at j ⊎ IdleAt subj pred obj turn one due j

-- the next row to come that may be due
abbrev pub Sought : List ℕ → List ℕ → List ℕ → ℕ → ℕ → ℕ → ℕ → List ℕ → Option ℕ → Type 0
Sought subj pred obj turn one n from due None = (j : ℕ) → j < n → ToCome turn from j → IdleAt subj pred obj turn one due j
Sought subj pred obj turn one n from due (Some at) = SoughtAt subj pred obj turn one n from due at

pub record First (turn n r : ℕ) : Type 0 where
  pub up : 0 < turn → r ≡ 0
  pub down : turn ≡ 0 → r ≡ n

pub record Onward (turn at more r : ℕ) : Type 0 where
  pub up : 0 < turn → r ≡ at + 1
  pub down : turn ≡ 0 → r ≡ at + more

-- the set has grown by each D with a row (D sp A) among the first n and A in it
pub record Spread (subj pred obj : List ℕ) (n : ℕ) (rose rose' : List ℕ) : Type 0 where
  pub more : Among rose rose'
  pub behind : (j : ℕ) → j < n → get_or pred j 0 ≡ sp → holds rose (get_or obj j 0) ≡ true → holds rose' (get_or subj j 0) ≡ true

-- no row begins with q and r
pub record NoRow (l : Lanes) (n q r : ℕ) (b : Bool) : Type 0 where
  pub none : b ≡ false → (z : ℕ) → 0 < graph_of (rows_of l n) (triple q r z) → ⊥

pub record Untyped (l : Lanes) (n one : ℕ) (r : Bool) : Type 0 where
  pub none : r ≡ false → Typed (graph_of (rows_of l n)) one → ⊥

-- the rows that can meet one of this subject are due in a round of the turn r: by the set, which has it and each D with (D sp `one`),
-- or by itself
pub record Aimed (l : Lanes) (n one : ℕ) (due : List ℕ) (r : ℕ) : Type 0 where
  pub there : r ≤ 1 → holds due one ≡ true
  pub below : r ≤ 1 → (j : ℕ) → j < n → get_or l.pred j 0 ≡ sp → get_or l.obj j 0 ≡ one → holds due (get_or l.subj j 0) ≡ true
  pub alone : 1 < r → Typed (graph_of (rows_of l n)) one → ⊥

abbrev pub AimedAt : Lanes → ℕ → ℕ → List ℕ → Turn → Type 0
AimedAt l n one due turn = Aimed l n one due (number_of turn) × (1 < number_of turn → one_of turn ≡ one)

-- row `at` is there, and its subject is in the set
pub record WaitsAt (subj : List ℕ) (n : ℕ) (rose : List ℕ) (at : ℕ) : Type 0 where
  pub there : at < n
  pub waits : holds rose (get_or subj at 0) ≡ true

pub record Fresh (subj : List ℕ) (n at : ℕ) (rose : List ℕ) (r : Bool) : Type 0 where
  pub fresh : r ≡ true → WaitsAt subj n rose at

-- a row whose subject is in the set
abbrev pub Waits : List ℕ → ℕ → List ℕ → Option ℕ → Type 0
Waits subj n rose None = Unit {0}
Waits subj n rose (Some at) = WaitsAt subj n rose at

-- and where none is given, no row has one
abbrev pub Chosen : List ℕ → ℕ → List ℕ → Option ℕ → Type 0
Chosen subj n rose None = (j : ℕ) → j < n → holds rose (get_or subj j 0) ≡ false
Chosen subj n rose (Some at) = WaitsAt subj n rose at
