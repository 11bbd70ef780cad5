-- By the line of the table that the kind has.
use Rattle.std.proofs.Common.{◌≤◌, inl, inr, arith}
use Rattle.annotation.specs.Kinds.{algebra}
use Rattle.annotation.proofs.Kind.meet.Goals as goal

pub returns-in-Years : goal.returns-in-Years
unfolding algebra
returns-in-Years c = elim c.in-Years.is [ inl e ↦ rw e c.in_both.ensures | inr e ↦ rw e c.in_both.ensures ]

pub returns-in-Degree : goal.returns-in-Degree
unfolding algebra
returns-in-Degree c = rw c.in-Degree.is c.min.ensures

pub overflow_add-a : goal.overflow_add-a
unfolding algebra
overflow_add-a c =
    let pre = c.requires in
    let left : c.args.a ≤ 1000 = rw c.in-Strict.is at pre.left in
    let right : c.args.b ≤ 1000 = rw c.in-Strict.is at pre.right in
    omega arith

pub returns-in-Strict : goal.returns-in-Strict
unfolding algebra
returns-in-Strict c = rw c.in-Strict.is c.saturating_sub.ensures
