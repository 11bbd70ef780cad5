-- The tag, then the length.
use mathlib.Core.Path.{refl}
use mathlib.Core.List.{[], ◌∷◌}
use native.Mathlib.Omega.{arith}
use lib.ListN.{length-set}
use borrow.Author.Rules.{rules}
use Rattle.field.specs.Numbers.{two_bytes}
use Rattle.field.proofs.Writing.{length_two, written_one, written_both}
use Rattle.field.proofs.number.put_front.Goals as goal

pub put_two-requires : goal.put_two-requires
put_two-requires c = simp length-set (omega arith)

pub returns : goal.returns
returns c =
    let the-args = c.args in
    let the-put-two = c.put_two in
    written_both the-args.bytes.now _ _ the-args.at 1 (_ ∷ []) (two_bytes _) refl (rw (length_two _) (search rules))
    (written_one the-args.bytes.now the-args.at _ (search rules)) the-put-two.ensures
