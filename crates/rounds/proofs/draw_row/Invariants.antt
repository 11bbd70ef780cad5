-- The invariant: what drawing a row promises, of the plans passed.
use Rattle.std.proofs.Common.{false}
use Rattle.annotation.specs.Numbered.{kind_number}
use Rattle.table.specs.Lent.{lanes_in, Kept}
use Rattle.rhodf.specs.Rules.{rules_of}
use Rattle.plans.specs.Plans.{plans_for}
use Rattle.walks.specs.Rising.{Drew}
use Rattle.walks.proofs.Rising.{Passed}
use Rattle.rounds.specs.Due.{OfRow}
use Rattle.rounds.specs.Rounds.{triple_at}
use Rattle.rounds.proofs.Rounding.{PlanPassed}
use Rattle.rounds.proofs.draw_row.Given as goal

abbrev pub invariant-loop-rule : goal.invariant-loop-rule
invariant-loop-rule l =
    let t = l.initial.table in
    record {
      kept : Kept t l.table;
      drew : Drew (rules_of l.rules) (kind_number t.kind) (OfRow (triple_at (lanes_in t) l.i) l.row.other l.row.third)
          (Passed (PlanPassed (plans_for l.rules) (kind_number t.kind) (lanes_in t) l.i) 0 l.rule (lanes_in t) t.count)
          (lanes_in t) t.count (lanes_in l.table) false l.row.changed l.table.count;
    }
