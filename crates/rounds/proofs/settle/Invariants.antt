-- The invariant: the table has risen, and a row that meets nothing that waits obeys its plans; the measure: what the sum of annotations has left, and
-- while it stays as it is, how many subjects wait.
use Rattle.annotation.specs.Numbered.{kind_number}
use Rattle.table.specs.Lent.{lanes_in, Kept}
use Rattle.rhodf.specs.Rules.{rules_of}
use Rattle.plans.specs.Plans.{plans_for}
use Rattle.rounds.proofs.Rounding.{Settling, settle_left}
use Rattle.rounds.proofs.settle.Given as goal

abbrev pub invariant-loop-at : goal.invariant-loop-at
invariant-loop-at l =
    let t = l.initial.table in
    record {
      kept : Kept t l.table;
      settling : Settling (rules_of l.rules) (plans_for l.rules) (kind_number t.kind) (lanes_in t) t.count (lanes_in l.table) l.table.count l.sets.rose;
    }

abbrev pub decreases-loop-at : goal.decreases-loop-at
decreases-loop-at l = settle_left (lanes_in l.table) l.table.count l.sets.rose
