-- One turn of the counter: what is done with the book's bytes, and with a question's.
use Rattle.std.specs.Prelude.{◌≡◌, Bool, true, false, List, [], ℕ, ◌≤◌, ◌<◌, length, Option, Some, None}
use Rattle.ruleset.specs.RuleSet.{is_rule_set}
use Rattle.table.specs.Rows.{Row, Lanes, rows_of}
use Rattle.table.specs.Sound.{Sound}
use Rattle.rhodf.specs.Rules.{rules_of}
use Rattle.rhodf.specs.Closure.{ClosureOf}
use Rattle.trackvesper.specs.ClosedBook.{said}
use Rattle.printing.specs.Text.{refused_line}
use Rattle.counter.specs.declared.next.Part.{Part}
use Rattle.counter.specs.declared.next.Part.TheVariants.{Ended, Cut, Whole}
use Rattle.counter.specs.declared.turns.Table.{Table}
use Rattle.counter.specs.Counted.{ended, cut, whole, next, comes_to, asked_lines}

-- a line, and 256 of the longest answers, have room in it
abbrev pub asked_room : ℕ
asked_room = 67712

-- this text
abbrev pub Is : List ℕ → List ℕ → Type 0
Is text t = t ≡ text

-- what stands next, as it is found
abbrev pub Came : List ℕ → Part → Type 0
Came s Ended = next s ≡ ended
Came s Cut = next s ≡ cut
Came s (Whole q) = (rest : List ℕ) × (next s ≡ whole q.now rest)

-- whether that is all: there is nothing to go on with
abbrev pub is_over : {A : Type 0} → Option A → Bool
is_over None = true
is_over (Some x) = false

-- what there is to go on with
abbrev pub kind_in : Option Table → ℕ
kind_in None = 0
kind_in (Some t) = t.kind

abbrev pub rules_in : Option Table → ℕ
rules_in None = 0
rules_in (Some t) = t.rules

abbrev pub rows_in : Option Table → ℕ
rows_in None = 0
rows_in (Some t) = t.rows

abbrev pub count_in : Option ℕ → ℕ
count_in None = 0
count_in (Some n) = n

-- a table between two turns
pub record Ready (kind : ℕ) (l : Lanes) (n : ℕ) : Type 0 where
  pub sound : Sound kind l n
  pub room : length l.subj ≡ 1024

-- the text for the book's bytes, whether that is all, and otherwise the book's rows and its rule set
pub record Opening (s : List ℕ) (over : Bool) (kind rules : ℕ) (l : Lanes) (n : ℕ) (text : List ℕ) : Type 0 where
  pub no_book : next s ≡ ended → (over ≡ true) × (text ≡ refused_line 1 0)
  pub cut_book : next s ≡ cut → (over ≡ true) × (text ≡ refused_line 1 0)
  pub unread : (b rest : List ℕ) → next s ≡ whole b rest → 0 < (said b).verdict_of.number
      → (over ≡ true) × (text ≡ refused_line (said b).verdict_of.number (said b).verdict_of.place)
  pub opened : (b rest : List ℕ) → next s ≡ whole b rest → (said b).verdict_of.number ≡ 0
      → (over ≡ false) × (text ≡ []) × (kind ≡ (said b).kind) × (rules ≡ (said b).rules) × (rows_of l n ≡ (said b).rows)
  pub ready : over ≡ false → Ready kind l n
  pub rules_known : over ≡ false → is_rule_set rules ≡ true

-- the text for a question's bytes over a table of these rows, whether that is all, and otherwise the closed table
pub record Turned (looks kind rules : ℕ) (rows : List Row) (s : List ℕ) (over : Bool) (l : Lanes) (n : ℕ) (text : List ℕ) : Type 0 where
  pub no_more : next s ≡ ended → (over ≡ true) × (text ≡ [])
  pub cut_short : next s ≡ cut → (over ≡ true) × (text ≡ refused_line 1 0)
  pub no_room : (q rest : List ℕ) → next s ≡ whole q rest → (closed : List Row) → ClosureOf kind (rules_of rules) rows closed → 1024 < length closed
      → (over ≡ true) × (text ≡ refused_line 12 0)
  pub asked : (q rest : List ℕ) → next s ≡ whole q rest → (closed : List Row) → ClosureOf kind (rules_of rules) rows closed → length closed ≤ 1024
      → (over ≡ false) × (text ≡ asked_lines (comes_to kind closed looks q)) × (rows_of l n ≡ closed)
  pub ready : over ≡ false → Ready kind l n
