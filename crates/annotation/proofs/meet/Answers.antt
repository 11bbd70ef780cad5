-- By the kind that the number stands for, which has its algebra.
use Rattle.annotation.proofs.Known.{stands-algebra}
use Rattle.annotation.proofs.meet.Goals as goal

pub meet-requires : goal.meet-requires
meet-requires c =
    let pre = c.requires in
    let k = c.or_strict.ensures in
    let e = stands-algebra c.args.kind in
    record { left = rw (k, e) pre.left; right = rw (k, e) pre.right }

pub returns : goal.returns
returns c = rw (← stands-algebra c.args.kind, ← c.or_strict.ensures) c.meet.ensures
