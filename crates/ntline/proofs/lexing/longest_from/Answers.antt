-- Step by step.
use Rattle.std.proofs.Common.{rules, sym, ◌∙◌}
use denote.Enum.Bare.{differs_true, differs_false}
use Rattle.ntline.specs.contracts.lexing.Kind.{the_type}
use Rattle.std.specs.Prelude.{◌≡◌}
use Rattle.ntline.specs.Kinds.{number_of, found_to}
use Rattle.ntline.specs.Inner.{Reached}
use Rattle.ntline.proofs.Tokens.{some-to, loop_stops, loop_some, loop_none, loop_ends, loop_passes}
use Rattle.ntline.proofs.lexing.longest_from.Goals as goal
use Rattle.ntline.proofs.lexing.longest_from.Goals.{then-ne, else-ne}

pub returns-then-is_dead : goal.returns-then-is_dead
returns-then-is_dead c =
    (loop_stops c.args.b.now c.args.at c.args.end _ _ _ _ _ _ _ c.loop-i.invariant.0 c.see-c.ensures c.stepped-state.ensures (sym c.is_dead.ensures ∙ c.if-is_dead.true), c.loop-i.invariant.1)

pub loop-i-preserved : goal.loop-i-preserved
loop-i-preserved c =
    let goes : Reached c.args.b.now c.args.at c.args.end c.stepped-state.result (number_of c.if-ne.last.kind) c.if-ne.last.to c.see-c.result.next
    = elim c.if-ne.branch [
      | then-ne w ↦
          rw w.last-is (loop_some c.args.b.now c.args.at c.args.end _ _ _ _ _ _ _ _ c.loop-i.invariant.0 c.see-c.ensures c.stepped-state.ensures c.kind_of-kind.ensures
          (differs_true the_type _ _ (sym w.if-ne.ensures)))
      | else-ne w ↦
          rw w.last-is (loop_none c.args.b.now c.args.at c.args.end _ _ _ _ _ _ _ _ c.loop-i.invariant.0 c.see-c.ensures c.stepped-state.ensures c.kind_of-kind.ensures
          (differs_false the_type (search rules) _ _ (sym w.if-ne.ensures)))
    ] in
    let place : c.if-ne.last.to ≡ found_to c.args.at c.if-ne.last
    = elim c.if-ne.branch [
      | then-ne w ↦ rw w.last-is (some-to _ c.args.at _ (differs_true the_type _ _ (sym w.if-ne.ensures)))
      | else-ne w ↦ rw w.last-is c.loop-i.invariant.1
    ] in
    (loop_passes c.args.b.now c.args.at c.args.end _ _ _ _ _ c.requires.0 goes c.pass-i.ensures, place)

pub returns : goal.returns
returns c = (loop_ends c.args.b.now c.args.at c.args.end _ _ _ _ c.loop-i.invariant.0 c.loop-i-test.false, c.loop-i.invariant.1)
