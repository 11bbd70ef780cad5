-- The invariant: what the sweeps have done.
use Rattle.annotation.specs.Numbered.{kind_number}
use Rattle.table.specs.Lent.{lanes_in, Kept}
use Rattle.rhodf.specs.Rules.{rules_of}
use Rattle.plans.specs.Plans.{plans_for}
use Rattle.rounds.proofs.Rounding.{Settling}
use Rattle.rounds.proofs.saturate.Given as goal

abbrev pub invariant-loop-turn : goal.invariant-loop-turn
invariant-loop-turn l =
    let t = l.fn.table in
    record {
      kept : Kept t l.table;
      settling : Settling (rules_of l.rules) (plans_for l.rules) (kind_number t.kind) (lanes_in t) t.count (lanes_in l.table) l.table.count l.sets.rose;
    }
