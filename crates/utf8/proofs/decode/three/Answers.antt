-- Three bytes are a character of the grammar, or none: by their number.
use native.Mathlib.Omega.{arith}
use mathlib.Core.Logic.{⊎_elim}
use Rattle.utf8.specs.Octets.{three_number}
use Rattle.std.proofs.Common.{sym}
use Rattle.utf8.proofs.Judged.{within-true, no_surrogate, character_is}
use Rattle.utf8.proofs.Decoding.{tail-found, tail-missed, not_three, so_three}
use Rattle.utf8.proofs.decode.three.Goals as goal
use Rattle.utf8.proofs.decode.three.Goals.{then-overlong-via-then-overlong, then-overlong-via-else-overlong+then-surrogate}
use Rattle.utf8.proofs.decode.three.Goals.{then-not-is_tail-via-then-not-is_tail, then-not-is_tail-via-else-not-is_tail+then-not-is_tail-2}

pub returns-then-not-is_tail : goal.returns-then-not-is_tail
returns-then-not-is_tail c =
    not_three c.args.x c.args.y c.args.z
    (λ t. elim c.then-not-is_tail.branch [
      | then-not-is_tail-via-then-not-is_tail w ↦ tail-missed c.args.y w.if-not-is_tail.ensures t.y_low t.y_high
      | then-not-is_tail-via-else-not-is_tail+then-not-is_tail-2 w ↦ tail-missed c.args.z w.if-not-is_tail-2.ensures t.z_low t.z_high
    ])

pub returns-then-overlong : goal.returns-then-overlong
returns-then-overlong c =
    not_three c.args.x c.args.y c.args.z
    (λ t. elim c.then-overlong.branch [
      | then-overlong-via-then-overlong w ↦ omega (arith, t.least)
      | then-overlong-via-else-overlong+then-surrogate w ↦
          let range = within-true 0xD800 0xDFFF (three_number c.args.x c.args.y c.args.z) (sym w.if-surrogate.ensures) in
          ⊎_elim (λ l. omega arith) (λ h. omega arith) (character_is (three_number c.args.x c.args.y c.args.z) t.character)
    ])

pub returns : goal.returns
returns c =
    let y-tail = tail-found c.args.y c.if-not-is_tail.ensures in
    let z-tail = tail-found c.args.z c.if-not-is_tail-2.ensures in
    let low = c.requires in
    so_three c.args.x c.args.y c.args.z
    (record {
      x_low = c.requires.0;
      x_high = c.requires.1;
      y_low = y-tail.0;
      y_high = y-tail.1;
      z_low = z-tail.0;
      z_high = z-tail.1;
      least = c.if-overlong.false;
      character = no_surrogate _ (omega arith) (sym c.if-surrogate.ensures);
    })
