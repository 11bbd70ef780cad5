-- Entry by entry, up to the last.
use mathlib.Core.Path.{sym, ◌∙◌}
use native.Mathlib.Omega.{arith}
use Rattle.names.specs.Read.{lanes_read}
use Rattle.names.proofs.Hashing.{count-here, count-other, count-end}
use Rattle.names.proofs.hash.Lanes.count_of.Goals as goal
use Rattle.names.proofs.hash.Lanes.count_of.Goals.{then-sort_of-sort, else-sort_of-sort}

pub loop-i-preserved : goal.loop-i-preserved
loop-i-preserved c =
    let a = c.args in
    let it = c.loop-i in
    elim c.if-sort_of-sort.branch [
      | then-sort_of-sort w ↦ count-here (lanes_read a.self) a.self.count a.sort it.i it.count it.invariant c.loop-i-test.true (sym c.sort_of.ensures ∙ w.if-sort_of-sort.true) c.if-sort_of-sort.count (omega (arith, w.count-is))
      | else-sort_of-sort w ↦ count-other (lanes_read a.self) a.self.count a.sort it.i it.count it.invariant c.loop-i-test.true (λ e. w.if-sort_of-sort.false (c.sort_of.ensures ∙ e)) c.if-sort_of-sort.count (omega (arith, w.count-is))
    ]

pub returns : goal.returns
returns c =
    let a = c.args in
    let it = c.loop-i in
    let pre = c.requires in
    (count-end (lanes_read a.self) a.self.count a.sort it.i it.count it.invariant c.loop-i-test.false, omega (arith, pre.few, pre.room, it.invariant.few, it.auto.i-end))
