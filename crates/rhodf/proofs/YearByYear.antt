-- Year by year: what a test reads in a closure is what the plain rules draw from the lines that it reads in the table. So two tables whose lines
-- agree have closures that agree. For every set of rules that keep terms legal and are decided, and every test that `Reads`. Assumes nothing.
use mathlib.Core.Path.{◌≡◌, refl, sym, ap, ◌∙◌, fun_ext, transport}
use mathlib.Core.Bool.{Bool, true, false, ◌||◌, and-eq-true_iff}
use mathlib.Core.List.{List, [], ◌∷◌}
use Prim.Native.Nat.{ℕ}
use Rattle.ground.proofs.Bools.{same_test}
use Rattle.annotation.specs.Algebra.{AtMost}
use Rattle.annotation.specs.Kinds.{algebra}
use Rattle.annotation.proofs.KindLaws.{laws}
use Rattle.table.specs.Rows.{Triple, Row}
use Rattle.table.specs.Sound.{SoundRows}
use Rattle.rhodf.specs.Graph.{Graph, graph_of, Valued, meet_all}
use Rattle.rhodf.specs.Rules.{Rules}
use Rattle.rhodf.specs.Closure.{ClosureOf}
use Rattle.rhodf.specs.Plain.{DrawnFrom, line, drawn, AllDrawnFrom, none, and, Reads, LinesOf, ExactlyDrawn, Agree}
use Rattle.rhodf.proofs.Graphs.{meet_all-value}
use Rattle.rhodf.proofs.Drawing.{KeepLegal}
use Rattle.rhodf.proofs.Deciding.{Decided}
use Rattle.rhodf.proofs.ClosureInduction.{Kept, closure_induction}

module _ (R : Rules) (keeps : KeepLegal R) (decided : Decided R) (kind : ℕ) (test : ℕ → Bool) (reads : Reads (algebra kind) test)
    (rows closed : List Row) (sound : SoundRows kind rows) (c : ClosureOf kind R rows closed) where
  abbrev X : Triple → Type 0
  X = DrawnFrom R (LinesOf test rows)

  -- what is at least a value that passes passes
  passes_up : (a b : ℕ) → AtMost (algebra kind) a b → test a ≡ true → test b ≡ true
  passes_up a b h e = ap test (sym h) ∙ reads.of_join a b ∙ rw e refl

  all_drawn : (G : Graph) → Valued (algebra kind) G → ((t : Triple) → test (G t) ≡ true → X t)
      → (ps : List Triple) → test (meet_all (algebra kind) G ps) ≡ true → AllDrawnFrom R (LinesOf test rows) ps
  all_drawn G v h [] e = none
  all_drawn G v h (p ∷ ps) e =
      let rest = meet_all-value (algebra kind) (laws kind) G v ps in
      let both = (and-eq-true_iff (test (G p)) _).0 (sym (reads.of_meet (G p) (meet_all (algebra kind) G ps) (v.value p) rest) ∙ e) in
      and p ps (h p both.0) (all_drawn G v h ps both.1)

  either : (t : Triple) (u w : Bool) → (u ≡ true → X t) → (w ≡ true → X t) → u || w ≡ true → X t
  either t true w f g e = f refl
  either t false w f g e = g e

  drawn-kept : Kept kind R (λ t a. test a ≡ true → X t)
  drawn-kept = record {
    joins = λ t a b f g e. either t (test a) (test b) f g (sym (reads.of_join a b) ∙ e);
    draws = λ G v h ps t rule named above e. drawn ps t rule named (all_drawn G v h ps e);
  }

  read-is_drawn : (t : Triple) → LinesOf test closed t → X t
  read-is_drawn = closure_induction R keeps decided kind (λ t a. test a ≡ true → X t) drawn-kept rows closed sound (λ t. line t) c

  mutual
    drawn-is_read : {t : Triple} → X t → LinesOf test closed t
    drawn-is_read (line t s) = passes_up (graph_of rows t) (graph_of closed t) (c.is_least.holds.below t) s
    drawn-is_read (drawn ps t rule named all) =
        passes_up (meet_all (algebra kind) (graph_of closed) ps) (graph_of closed t) (c.is_least.is_closed.closed ps t rule named) (all_read all)

    all_read : {ps : List Triple} → AllDrawnFrom R (LinesOf test rows) ps → test (meet_all (algebra kind) (graph_of closed) ps) ≡ true
    all_read none = reads.of_top
    all_read (and p ps d ds) =
        let v = c.is_least.valued in
        reads.of_meet (graph_of closed p) (meet_all (algebra kind) (graph_of closed) ps) (v.value p) (meet_all-value (algebra kind) (laws kind) (graph_of closed) v ps)
        ∙ rw (drawn-is_read d, all_read ds) refl

  pub exactly_drawn : ExactlyDrawn R test rows closed
  exactly_drawn t = (read-is_drawn t, λ d. drawn-is_read d)

-- what is drawn is told by the lines alone
module _ (R : Rules) (keeps : KeepLegal R) (decided : Decided R) where
  pub closures_agree : (kind kind' : ℕ) (test test' : ℕ → Bool) → Reads (algebra kind) test → Reads (algebra kind') test'
      → (rows rows' closed closed' : List Row) → SoundRows kind rows → SoundRows kind' rows' → ClosureOf kind R rows closed → ClosureOf kind' R rows' closed'
      → Agree test test' rows rows' → Agree test test' closed closed'
  closures_agree kind kind' test test' reads reads' rows rows' closed closed' sound sound' c c' agree t =
      let one = exactly_drawn R keeps decided kind test reads rows closed sound c t in
      let other = exactly_drawn R keeps decided kind' test' reads' rows' closed' sound' c' t in
      let same : LinesOf test rows ≡ LinesOf test' rows' = fun_ext (λ t. ap (λ (b : Bool). b ≡ true) (agree t)) in
      let so : DrawnFrom R (LinesOf test rows) t ≡ DrawnFrom R (LinesOf test' rows') t = ap (λ (S : Triple → Type 0). DrawnFrom R S t) same in
      same_test (test (graph_of closed t)) (test' (graph_of closed' t))
      (λ e. other.1 (transport so (one.0 e)))
      (λ e. one.1 (transport (sym so) (other.0 e)))
