-- The third condition for the public calls: `compile` fills the lent step records, and `run` takes the steps from them.
use Rattle.std.specs.Prelude.{◌≡◌, true, false, ◌↔◌, List, ℕ, ◌≤◌, length}
use Rattle.annotation.specs.Kinds.{algebra, is_kind}
use Rattle.table.specs.Rows.{Lanes, rows_of}
use Rattle.table.specs.Sound.{Sound}
use Rattle.question.specs.declared.records.StepRecord.{StepRecord}
use Rattle.parts.specs.Part.{Part, parts}
use Rattle.parts.specs.Writing.{part_bytes}
use Rattle.machine.specs.Bounded.{Outcome}
use Rattle.machine.specs.Running.{answer_room, is_unfit_room, running, Ran}
use Rattle.meaning.specs.AsMeant.{IsQuestion, AsMeant}
use Rattle.meaning.specs.Passing.{Passes, Askable}
use Rattle.question.specs.Steps.{Step}
use Rattle.question.specs.Compiling.{steps, compiling}
use Rattle.steplist.specs.Filling.{Filling}
use Rattle.steplist.specs.Asking.{asking}

-- what a call of `run` answered and left in the answer lanes is what the part means over the table's rows
pub record Answered (kind : ℕ) (l : Lanes) (n : ℕ) (p : Part) (allowed number place answers looks : ℕ) (terms anns terms' anns' : List ℕ) : Type 0 where
  pub outcome : Outcome
  pub as_meant : AsMeant (algebra kind) (rows_of l n) p allowed (answer_room terms) outcome
  pub reported : Ran outcome number place answers looks terms anns terms' anns'

-- any result that the contract of `run` allows for these records and this number of steps
abbrev pub EveryRunAnswers : ℕ → Part → List StepRecord → ℕ → Type 0
EveryRunAnswers kind p records count =
    (l : Lanes) (n : ℕ) (terms anns : List ℕ) (allowed number place answers looks : ℕ) (terms' anns' : List ℕ)
    → Sound kind l n → is_unfit_room terms anns ≡ false
    → Ran (running kind l n terms anns records (length records) count allowed) number place answers looks terms anns terms' anns'
    → Answered kind l n p allowed number place answers looks terms anns terms' anns'

-- "For every question of up to 32 parts that passes the check, turning it into the tester's flat steps and running them over any sound table of
-- the same kind of annotation lists exactly the answers that the published meaning gives": whatever `compile` answers with 0
abbrev pub PublicConditionThree : Type 0
PublicConditionThree =
    (kind : ℕ) (s : List ℕ) (before after : List StepRecord) (place count : ℕ) → Filling kind s before 0 place count after
    → (p : Part) × IsQuestion kind s p × (parts p ≤ 32) × EveryRunAnswers kind p after count

-- the same for both by one call: whatever `ask` answers for a question that compiling does not refuse
abbrev pub AskConditionThree : Type 0
AskConditionThree =
    (kind : ℕ) (s : List ℕ) (st : List Step) → compiling kind s 48 ≡ steps st
    → (p : Part) × IsQuestion kind s p × (parts p ≤ 32)
    × ((l : Lanes) (n : ℕ) (terms anns : List ℕ) (allowed number place answers looks : ℕ) (terms' anns' : List ℕ)
    → Sound kind l n → is_unfit_room terms anns ≡ false
    → Ran (asking kind l n terms anns s allowed) number place answers looks terms anns terms' anns'
    → Answered kind l n p allowed number place answers looks terms anns terms' anns')

-- any result that the contract of `ask` allows for these bytes
abbrev pub EveryAskAnswers : ℕ → Part → List ℕ → Type 0
EveryAskAnswers kind p s =
    (l : Lanes) (n : ℕ) (terms anns : List ℕ) (allowed number place answers looks : ℕ) (terms' anns' : List ℕ)
    → Sound kind l n → is_unfit_room terms anns ≡ false
    → Ran (asking kind l n terms anns s allowed) number place answers looks terms anns terms' anns'
    → Answered kind l n p allowed number place answers looks terms anns terms' anns'

-- any result that the contract of `compile` allows for these bytes and 48 records or more: done, and the steps run as the part means
abbrev pub EveryCompileAnswers : ℕ → Part → List ℕ → Type 0
EveryCompileAnswers kind p s =
    (before after : List StepRecord) (number place count : ℕ) → 48 ≤ length before → Filling kind s before number place count after
    → (number ≡ 0) × EveryRunAnswers kind p after count

-- "For every question of up to 32 parts that passes the check": from the bytes, and from the tree as the format writes it
abbrev pub EveryPassingAnswered : Type 0
EveryPassingAnswered = (kind : ℕ) (s : List ℕ) (p : Part) → Passes kind s p → EveryCompileAnswers kind p s × EveryAskAnswers kind p s

abbrev pub EveryTreeAnswered : Type 0
EveryTreeAnswered = (kind : ℕ) (p : Part) → Askable kind p → EveryCompileAnswers kind p (part_bytes p) × EveryAskAnswers kind p (part_bytes p)

-- and `compile` answers 0, of a kind that there is and with 48 records lent, exactly for these
abbrev pub CheckPassesExactly : Type 0
CheckPassesExactly =
    (kind : ℕ) (s : List ℕ) (before after : List StepRecord) (number place count : ℕ) → is_kind kind ≡ true → 48 ≤ length before
    → Filling kind s before number place count after → (number ≡ 0) ↔ ((p : Part) × Passes kind s p)
