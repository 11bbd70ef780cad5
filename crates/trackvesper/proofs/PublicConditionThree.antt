-- Condition 3 for the public calls: what `compile` laid in the lent records, `run` answers as the question means, and `ask` answers so by one call. Assumes nothing.
use mathlib.Core.Path.{◌≡◌, refl, subst}
use mathlib.Core.Bool.{false}
use mathlib.Core.List.{List, [], ◌++◌, map, append-nil}
use Prim.Native.Nat.{ℕ, ◌≤◌}
use native.Mathlib.Omega.{arith}
use lib.ListN.{length, drop, length-append, length-map}
use Rattle.question.specs.declared.records.StepRecord.{StepRecord}
use Rattle.parts.specs.Part.{Part}
use Rattle.parts.specs.Writing.{part_bytes, placed}
use Rattle.question.specs.Steps.{Step, program}
use Rattle.question.specs.Records.{record_of}
use Rattle.question.specs.Compiling.{Final, steps, refused, compiling}
use Rattle.question.proofs.ZeroIsDone.{refusal_has_number}
use Rattle.question.proofs.AtMost.{steps-at_most_48}
use Rattle.annotation.specs.Kinds.{algebra}
use Rattle.table.specs.Rows.{Lanes, rows_of}
use Rattle.table.specs.Sound.{Sound}
use Rattle.machine.specs.Running.{answer_room, is_unfit_room, running, Ran}
use Rattle.meaning.specs.AsMeant.{AsMeant, RunAsMeant}
use Rattle.meaning.proofs.ConditionThree.{condition_three}
use Rattle.meaning.proofs.Passing.{passes-compiles, passes-runs, compiles_passes, askable_compiles, askable_runs}
use Rattle.steplist.specs.Filling.{Laid}
use Rattle.steplist.specs.Asking.{asked_for, asking}
use Rattle.trackvesper.specs.Answered.{Answered, EveryRunAnswers, EveryAskAnswers, EveryCompileAnswers, PublicConditionThree, AskConditionThree, EveryPassingAnswered, EveryTreeAnswered, CheckPassesExactly}

-- a compiling that answers 0 has steps, and they stand in front of the records
pub record Steps (kind : ℕ) (s : List ℕ) (before after : List StepRecord) (count : ℕ) : Type 0 where
  pub st : List Step
  pub compiles : compiling kind s (length before) ≡ steps st
  pub counted : count ≡ length st
  pub laid : after ≡ map record_of st ++ drop (length st) before

module _ (kind : ℕ) (s : List ℕ) (before after : List StepRecord) (place count : ℕ) where
  steps_of : (f : Final) → compiling kind s (length before) ≡ f → Laid 0 place count before after f → Steps kind s before after count
  steps_of (steps st) e h = record { st = st; compiles = e; counted = h.2; laid = h.3 }
  steps_of (refused x p) e h = absurd (omega (arith, refusal_has_number kind s (length before) x p e, h.0))

few-in : (st : List Step) (behind : List StepRecord) → length st ≤ length (map record_of st ++ behind)
few-in st behind = omega (arith, length-append (map record_of st) behind, length-map st record_of)

runs_answer : (kind : ℕ) (p : Part) (st : List Step) (behind records : List StepRecord) (count : ℕ) → count ≡ length st
    → records ≡ map record_of st ++ behind → RunAsMeant kind p st → EveryRunAnswers kind p records count
runs_answer kind p st behind records count e f h l n terms anns allowed number place answers looks terms' anns' sound fit ran =
    record {
      outcome = running kind l n terms anns records (length records) count allowed;
      as_meant = rw (e, f) (h l n terms anns behind (length (map record_of st ++ behind)) allowed sound fit (few-in st behind));
      reported = ran;
    }

pub public_condition_three : PublicConditionThree
public_condition_three kind s before after place count h =
    let z = steps_of kind s before after place count _ refl h.comes_to_lem in
    let w = condition_three kind s (length before) z.st z.compiles in (
      w.0,
      w.1,
      w.2,
      runs_answer kind w.0 z.st (drop (length z.st) before) after count z.counted z.laid w.3,
    )

ask_answers : (kind : ℕ) (s : List ℕ) (p : Part) (st : List Step) → compiling kind s 48 ≡ steps st → RunAsMeant kind p st
    → (l : Lanes) (n : ℕ) (terms anns : List ℕ) (allowed number place answers looks : ℕ) (terms' anns' : List ℕ)
    → Sound kind l n → is_unfit_room terms anns ≡ false
    → Ran (asking kind l n terms anns s allowed) number place answers looks terms anns terms' anns'
    → Answered kind l n p allowed number place answers looks terms anns terms' anns'
ask_answers kind s p st e h l n terms anns allowed number place answers looks terms' anns' sound fit ran =
    record {
      outcome = running kind l n terms anns (map record_of st) 48 (length st) allowed;
      as_meant = subst (λ (rs : List StepRecord). AsMeant (algebra kind) (rows_of l n) p allowed (answer_room terms) (running kind l n terms anns rs 48 (length st) allowed)) (append-nil (map record_of st))
          (h l n terms anns [] 48 allowed sound fit (steps-at_most_48 kind s 48 st e));
      reported = subst (λ (f : Final). Ran (asked_for kind l n terms anns allowed f) number place answers looks terms anns terms' anns') e ran;
    }

pub ask_condition_three : AskConditionThree
ask_condition_three kind s st e = let w = condition_three kind s 48 st e in (w.0, w.1, w.2, ask_answers kind s w.0 st e w.3)

-- ---- from "passes the check", and from the tree

-- bytes that compile to steps, whatever records are lent
module _ (kind : ℕ) (s : List ℕ) (p : Part) (st : List Step) (compiles : (room : ℕ) → 48 ≤ room → compiling kind s room ≡ steps st) (runs : RunAsMeant kind p st) where
  compile-answers : EveryCompileAnswers kind p s
  compile-answers before after number place count lends h =
      let w : Laid number place count before after (steps st) = rw (compiles (length before) lends) at h.comes_to_lem in
      (w.0, runs_answer kind p st (drop (length st) before) after count w.2 w.3 runs)

  asks-answer : EveryAskAnswers kind p s
  asks-answer = ask_answers kind s p st (compiles 48 (omega arith)) runs

pub every_passing_answered : EveryPassingAnswered
every_passing_answered kind s p h = (compile-answers kind s p (program p) (passes-compiles kind s p h) (passes-runs kind s p h), asks-answer kind s p (program p) (passes-compiles kind s p h) (passes-runs kind s p h))

pub every_tree_answered : EveryTreeAnswered
every_tree_answered kind p h = (
  compile-answers kind (part_bytes p) p (program (placed 0 p)) (askable_compiles kind p h) (askable_runs kind p h),
  asks-answer kind (part_bytes p) p (program (placed 0 p)) (askable_compiles kind p h) (askable_runs kind p h),
)

pub check_passes_exactly : CheckPassesExactly
check_passes_exactly kind s before after number place count known lends h = (
  λ z. let w = steps_of kind s before after place count _ refl (rw z at h.comes_to_lem) in compiles_passes kind s (length before) w.st known w.compiles,
  λ x. (compile-answers kind s x.0 (program x.0) (passes-compiles kind s x.0 x.1) (passes-runs kind s x.0 x.1) before after number place count lends h).0,
)
