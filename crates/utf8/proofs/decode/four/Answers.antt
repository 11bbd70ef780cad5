-- Four bytes are a character of the grammar, or none: by their number.
use native.Mathlib.Omega.{arith}
use Rattle.utf8.proofs.Decoding.{tail-found, tail-missed, not-four, so_four}
use Rattle.utf8.proofs.decode.four.Goals as goal
use Rattle.utf8.proofs.decode.four.Goals.{then-overlong-via-then-overlong, then-overlong-via-else-overlong+then-above}
use Rattle.utf8.proofs.decode.four.Goals.{then-x-gt244-via-then-x-gt244, then-x-gt244-via-else-x-gt244+then-not-is_tail, then-x-gt244-via-else-x-gt244+else-not-is_tail+then-not-is_tail-2, then-x-gt244-via-else-x-gt244+else-not-is_tail+else-not-is_tail-2+then-not-is_tail-3}

pub returns-then-x-gt244 : goal.returns-then-x-gt244
returns-then-x-gt244 c =
    not-four c.args.x c.args.y c.args.z c.args.w
    (λ t. elim c.then-x-gt244.branch [
      | then-x-gt244-via-then-x-gt244 w ↦ omega (arith, t.x_high)
      | then-x-gt244-via-else-x-gt244+then-not-is_tail w ↦ tail-missed c.args.y w.if-not-is_tail.ensures t.y_low t.y_high
      | then-x-gt244-via-else-x-gt244+else-not-is_tail+then-not-is_tail-2 w ↦ tail-missed c.args.z w.if-not-is_tail-2.ensures t.z_low t.z_high
      | then-x-gt244-via-else-x-gt244+else-not-is_tail+else-not-is_tail-2+then-not-is_tail-3 w ↦ tail-missed c.args.w w.if-not-is_tail-3.ensures t.w_low t.w_high
    ])

pub returns : goal.returns
returns c =
    let y-tail = tail-found c.args.y c.if-not-is_tail.ensures in
    let z-tail = tail-found c.args.z c.if-not-is_tail-2.ensures in
    let w-tail = tail-found c.args.w c.if-not-is_tail-3.ensures in
    so_four c.args.x c.args.y c.args.z c.args.w
    (record {
      x_low = c.requires;
      x_high = c.if-x-gt244.false;
      y_low = y-tail.0;
      y_high = y-tail.1;
      z_low = z-tail.0;
      z_high = z-tail.1;
      w_low = w-tail.0;
      w_high = w-tail.1;
      least = omega arith;
      most = omega arith;
    })

pub returns-then-overlong : goal.returns-then-overlong
returns-then-overlong c =
    not-four c.args.x c.args.y c.args.z c.args.w
    (λ t. elim c.then-overlong.branch [
      | then-overlong-via-then-overlong w ↦ omega (arith, t.least)
      | then-overlong-via-else-overlong+then-above w ↦ omega (arith, t.most)
    ])
