-- Two bytes are a character of the grammar, or none.
use native.Mathlib.Omega.{arith}
use Rattle.utf8.proofs.Decoding.{tail-found, tail-missed, not-two, so_two}
use Rattle.utf8.proofs.decode.two.Goals as goal
use Rattle.utf8.proofs.decode.two.Goals.{then-x-lt194-via-then-x-lt194, then-x-lt194-via-else-x-lt194+then-not-is_tail}

pub returns-then-x-lt194 : goal.returns-then-x-lt194
returns-then-x-lt194 c =
    not-two c.args.x c.args.y
    (λ t. elim c.then-x-lt194.branch [
      | then-x-lt194-via-then-x-lt194 w ↦ omega (arith, t.x_low)
      | then-x-lt194-via-else-x-lt194+then-not-is_tail w ↦ tail-missed c.args.y w.if-not-is_tail.ensures t.y_low t.y_high
    ])

pub returns : goal.returns
returns c =
    let found = tail-found c.args.y c.if-not-is_tail.ensures in
    so_two c.args.x c.args.y (record { x_low = c.if-x-lt194.false; x_high = c.requires; y_low = found.0; y_high = found.1 })
