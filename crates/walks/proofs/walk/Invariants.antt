-- The invariant: what the walk promises, of the rows passed.
use Rattle.std.proofs.Common.{◌-◌, false, length}
use Rattle.annotation.specs.Numbered.{kind_number}
use Rattle.table.specs.Lent.{lanes_in, Kept}
use Rattle.rhodf.specs.Rules.{rules_of}
use Rattle.plans.specs.Plans.{subject_of_each}
use Rattle.walks.specs.Rising.{Drew}
use Rattle.walks.specs.Walks.{OfOne, RowMet}
use Rattle.walks.proofs.Rising.{Passed}
use Rattle.walks.proofs.walk.Given as goal

abbrev pub invariant-loop-each : goal.invariant-loop-each
invariant-loop-each g l =
    let each = g.G.Gives.each l.each in
    let t = l.initial.table in
    record {
      kept : Kept t l.table;
      drew : Drew (rules_of l.rules) (kind_number t.kind) (OfOne (subject_of_each each))
          (Passed (RowMet (kind_number t.kind) l.q l.r each l.a) l.initial.i l.i (lanes_in t) t.count) (lanes_in t) t.count (lanes_in l.table) false l.walked.changed l.table.count;
    }

abbrev pub decreases-loop-each : goal.decreases-loop-each
decreases-loop-each g l = length l.initial.table.subj.now - l.i
