-- A question asked of a sound table: what it comes to over the lanes is what it comes to over the rows, and the answers in the lanes are its lines. Assumes nothing.
use mathlib.Core.Path.{◌≡◌, refl, sym, ap, subst, ◌∙◌}
use mathlib.Core.Bool.{false}
use mathlib.Core.List.{List, [], ◌∷◌, ◌++◌, map, append-nil, append_assoc}
use Prim.Native.Nat.{ℕ, zero, suc, ◌+◌, ◌*◌, ◌≤◌}
use native.Mathlib.Nat.{suc-mul}
use native.Mathlib.Omega.{arith}
use lib.ListN.{length, drop}
use lib.Seq.{take_at, drop-append-add}
use Rattle.ground.specs.Lists.{tab, each, All}
use Rattle.ground.proofs.Each.{each-ext}
use Rattle.ground.proofs.Tab.{tab-length}
use Rattle.annotation.specs.Kinds.{algebra}
use Rattle.table.specs.Rows.{Lanes, rows_of}
use Rattle.table.specs.Sound.{Sound}
use Rattle.parts.specs.Part.{Part}
use Rattle.parts.specs.Format.{Out, ok}
use Rattle.question.specs.Steps.{Step}
use Rattle.question.specs.Records.{record_of}
use Rattle.question.specs.Compiling.{Final, steps, refused, compiling}
use Rattle.question.proofs.AfterReading.{came_from}
use Rattle.question.proofs.AtMost.{steps-at_most_48}
use Rattle.question.proofs.Judged.{opened}
use Rattle.answers.specs.declared.bindings.Bindings.{Bindings}
use Rattle.answers.specs.Answers.{empty}
use Rattle.machine.specs.Trace.{trace_of}
use Rattle.machine.specs.Bounded.{Outcome, bounded}
use Rattle.machine.specs.Running.{answer_room, is_unfit_room, running, Ran}
use Rattle.machine.proofs.RunBounds.{answers-within}
use Rattle.meaning.specs.Published.{Substitution, published}
use Rattle.meaning.specs.Written.{written}
use Rattle.meaning.specs.PartTrace.{part_trace}
use Rattle.meaning.specs.AsMeant.{AsMeant}
use Rattle.meaning.proofs.ConditionThree.{condition_three}
use Rattle.meaning.proofs.Steps.{program-trace}
use Rattle.steplist.specs.Asking.{asked_for, asking}
use Rattle.printing.specs.Text.{asked_line}
use Rattle.printing.specs.Laid.{LaidWithin, Fronted, answer_at, answers_in, asked_in}
use Rattle.printing.proofs.Laying.{laid-front}
use Rattle.counter.specs.Counted.{of_steps, comes_to, line_of, asked_lines}
use Rattle.counter.specs.Turns.{asked_room, Is}

-- ---- answers in the lanes

-- "16 terms and 8 annotations a row"
pub record Sized (b : Bindings) : Type 0 where
  pub sixteen : length b.terms ≡ 16
  pub eight : length b.anns ≡ 8

each-tab : (f : ℕ → List ℕ) (g : ℕ → ℕ) (n : ℕ) → each f (tab n g) ≡ each (λ (i : ℕ). f (g i)) (tab n (λ i. i))
unfolding tab each
each-tab f g zero = refl
each-tab f g (suc n) =
    ap (λ (x : List ℕ). f (g zero) ++ x) (each-tab f (λ i. g (suc i)) n ∙ sym (each-tab (λ (i : ℕ). f (g i)) (λ i. suc i) n))

-- behind the first answer
module _ (b : Bindings) (sized : Sized b) (terms anns : List ℕ) where
  first-is : answer_at (b.terms ++ terms) (b.anns ++ anns) 0 ≡ line_of b
  first-is = rw (take_at b.terms terms 16 sized.sixteen, take_at b.anns anns 8 sized.eight) refl

  past : (l rest : List ℕ) (k i : ℕ) → length l ≡ k → drop (suc i * k) (l ++ rest) ≡ drop (i * k) rest
  past l rest k i e =
      let m : suc i * k ≡ length l + i * k = suc-mul i k ∙ omega (arith, e) in
      rw m (drop-append-add l rest (i * k))

  next_is : (i : ℕ) → answer_at (b.terms ++ terms) (b.anns ++ anns) (suc i) ≡ answer_at terms anns i
  next_is i = rw (past b.terms terms 16 i sized.sixteen, past b.anns anns 8 i sized.eight) refl

lanes-answers : (given : List Bindings) (terms anns : List ℕ) → All Sized given
    → answers_in (each (λ (b : Bindings). b.terms) given ++ terms) (each (λ (b : Bindings). b.anns) given ++ anns) (length given) ≡ each line_of given
unfolding tab each
lanes-answers [] terms anns h = refl
lanes-answers (b ∷ given) terms anns h =
    let xs = each (λ (c : Bindings). c.terms) given ++ terms in
    let ys = each (λ (c : Bindings). c.anns) given ++ anns in
    let more = length (b ∷ given) in
    ap (λ (t : List ℕ). answers_in t (each (λ (c : Bindings). c.anns) (b ∷ given) ++ anns) more) (append_assoc b.terms (each (λ (c : Bindings). c.terms) given) terms)
    ∙ ap (λ (a : List ℕ). answers_in (b.terms ++ xs) a more) (append_assoc b.anns (each (λ (c : Bindings). c.anns) given) anns)
    ∙ rw (first-is b h.0 xs ys)
    (ap (λ (x : List ℕ). line_of b ++ x)
    (each-tab (answer_at (b.terms ++ xs) (b.anns ++ ys)) (λ i. suc i) (length given)
    ∙ each-ext (λ (i : ℕ). answer_at (b.terms ++ xs) (b.anns ++ ys) (suc i)) (answer_at xs ys) (tab (length given) (λ i. i)) (next_is b h.0 xs ys)
    ∙ lanes-answers given terms anns h.1))

-- what was run is printed
pub ran_lines : (o : Outcome) (number place answers looks : ℕ) (terms anns terms' anns' : List ℕ) → All Sized o.given
    → Ran o number place answers looks terms anns terms' anns' → asked_in number place looks terms' anns' answers ≡ asked_lines o
ran_lines o number place answers looks terms anns terms' anns' sized r =
    rw (r.numbered, r.placed, r.looked, r.term_lane, r.ann_lane, r.counted)
    (ap (λ (x : List ℕ). asked_line o.number o.place (length o.given) o.looks ++ x) (lanes-answers o.given _ _ sized))

-- ---- what a question comes to

written-sized : (m : Substitution) → Sized (written m)
written-sized m = record { sixteen = tab-length 16 _; eight = tab-length 8 _ }

all_sized : (ms : List Substitution) → All Sized (map written ms)
all_sized [] = tt
all_sized (m ∷ ms) = (written-sized m, all_sized ms)

front-sized : (xs ys : List Bindings) → All Sized (xs ++ ys) → All Sized xs
front-sized [] ys h = tt
front-sized (x ∷ xs) ys h = (h.0, front-sized xs ys h.1)

same-part : {o : Out} {p p' : Part} {a b a' b' : ℕ} → o ≡ ok p a b → o ≡ ok p' a' b' → p ≡ p'
same-part x y = cc

module _ (kind : ℕ) (l : Lanes) (n : ℕ) (sound : Sound kind l n) (terms anns : List ℕ) (long : length terms ≡ 4096) (half : length anns ≡ 2048) (q : List ℕ) (looks : ℕ) where
  fit : is_unfit_room terms anns ≡ false
  fit = rw (long, half) refl

  room : answer_room terms ≡ 256
  room = rw long refl

  -- what the run of its steps gives
  module _ (st : List Step) (e : compiling kind q 48 ≡ steps st) where
    meant : (p : Part) × AsMeant (algebra kind) (rows_of l n) p looks 256 (running kind l n terms anns (map record_of st) 48 (length st) looks) × (trace_of (algebra kind) (rows_of l n) st ≡ part_trace (algebra kind) (rows_of l n) p empty)
    meant =
        let c = came_from kind q st (opened kind q 48 st e) in
        let w = condition_three kind q 48 st e in
        let same : c.part ≡ w.0 = same-part c.read w.1.1 in (
          w.0,
          rw (room, append-nil (map record_of st)) at (w.3 l n terms anns [] 48 looks sound fit (steps-at_most_48 kind q 48 st e)),
          ap (trace_of (algebra kind) (rows_of l n)) c.steps-are ∙ program-trace (algebra kind) (rows_of l n) c.part ∙ ap (λ (p : Part). part_trace (algebra kind) (rows_of l n) p empty) same,
        )

    run_is : running kind l n terms anns (map record_of st) 48 (length st) looks ≡ bounded looks 256 (trace_of (algebra kind) (rows_of l n) st)
    run_is = meant.1.replays ∙ ap (bounded looks 256) (sym meant.2)

    run_sized : All Sized (bounded looks 256 (trace_of (algebra kind) (rows_of l n) st)).given
    run_sized =
        let o = running kind l n terms anns (map record_of st) 48 (length st) looks in
        let stand = meant.1.as_published.stand in
        subst (λ (x : Outcome). All Sized x.given) run_is
        (front-sized o.given stand.0 (subst (All Sized) (sym stand.1) (all_sized (published (algebra kind) (rows_of l n) meant.0))))

  pub asking-is : asking kind l n terms anns q looks ≡ comes_to kind (rows_of l n) looks q
  asking-is = go (compiling kind q 48) refl
    where
      go : (f : Final) → compiling kind q 48 ≡ f → asked_for kind l n terms anns looks f ≡ of_steps kind (rows_of l n) looks f
      go (steps st) e = run_is st e
      go (refused number place) e = refl

  pub answers-sized : All Sized (comes_to kind (rows_of l n) looks q).given
  answers-sized = go (compiling kind q 48) refl
    where
      go : (f : Final) → compiling kind q 48 ≡ f → All Sized (of_steps kind (rows_of l n) looks f).given
      go (steps st) e = run_sized st e
      go (refused number place) e = tt

  pub answers-few : length (comes_to kind (rows_of l n) looks q).given ≤ 256
  answers-few = go (compiling kind q 48)
    where
      go : (f : Final) → length (of_steps kind (rows_of l n) looks f).given ≤ 256
      go (steps st) = answers-within looks 256 (trace_of (algebra kind) (rows_of l n) st)
      go (refused number place) = omega arith

  module _ (out : List ℕ) (space : asked_room ≤ length out) (number place answers made : ℕ) (terms' anns' : List ℕ) (same_terms : length terms' ≡ length terms) (same-anns : length anns' ≡ length anns)
      (ran : Ran (asking kind l n terms anns q looks) number place answers made terms anns terms' anns') where
    ran_rows : Ran (comes_to kind (rows_of l n) looks q) number place answers made terms anns terms' anns'
    ran_rows = rw asking-is at ran

    few : answers ≤ 256
    few = omega (arith, ran_rows.counted, answers-few)

    pub asked-fits : (answers * 16 ≤ length terms') × (answers * 8 ≤ length anns') × (90 + answers * 264 ≤ length out)
    asked-fits = (omega (arith, few), omega (arith, few), omega (arith, few, space))

    pub asked-fronted : (out' : List ℕ) (size : ℕ) → LaidWithin out out' 0 size (asked_in number place made terms' anns' answers) (90 + answers * 264)
        → Fronted (Is (asked_lines (comes_to kind (rows_of l n) looks q))) out out' size
    asked-fronted out' size p =
        laid-front (Is (asked_lines (comes_to kind (rows_of l n) looks q))) out out' (asked_in number place made terms' anns' answers) size
        (omega (arith, p.within, asked-fits.2))
        (ran_lines (comes_to kind (rows_of l n) looks q) number place answers made terms anns terms' anns' answers-sized ran_rows)
        p.laid
