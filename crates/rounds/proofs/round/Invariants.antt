-- The invariant: what a round promises, of the rows that are not to come; the measure: what it has left.
use Rattle.std.proofs.Common.{length}
use Rattle.annotation.specs.Numbered.{kind_number}
use Rattle.table.specs.Lent.{lanes_in, Kept}
use Rattle.rhodf.specs.Rules.{rules_of}
use Rattle.plans.specs.Plans.{plans_for}
use Rattle.rounds.specs.Due.{number_of, one_of, ToCome, Seeking}
use Rattle.rounds.proofs.Rounding.{SoFar, round_left}
use Rattle.rounds.proofs.round.Given as goal

abbrev pub invariant-loop-at : goal.invariant-loop-at
invariant-loop-at l =
    let t = l.initial.table in
    let turn = number_of l.turn in
    record {
      kept : Kept t l.table;
      so_far : SoFar (rules_of l.rules) (plans_for l.rules) turn (one_of l.turn) (kind_number t.kind) (lanes_in t) t.count
          (lanes_in l.table) l.drawn.changed l.table.count l.sets.due l.initial.sets.rose l.sets.rose (ToCome turn l.i);
      seeking : Seeking turn l.table.count l.i;
    }

abbrev pub decreases-loop-at : goal.decreases-loop-at
decreases-loop-at l = round_left (number_of l.turn) (length l.initial.table.subj.now) l.table.count l.i
