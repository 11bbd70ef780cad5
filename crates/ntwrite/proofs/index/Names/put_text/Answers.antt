-- One of the five, or what the list has, all of it laid.
use mathlib.Core.Path.{sym, ap, ◌∙◌}
use mathlib.Core.List.{List}
use Prim.Native.Nat.{ℕ, ◌+◌}
use native.Mathlib.Omega.{arith}
use lib.ListN.{length}
use Rattle.field.specs.Numbers.{written}
use Rattle.ntwrite.specs.Listed.{entries_in}
use Rattle.ntwrite.proofs.Pieces.{text-five, text-listed, text-laid}
use Rattle.ntwrite.proofs.index.Names.put_text.Goals as goal

pub put_five-requires : goal.put_five-requires
put_five-requires c = rw (text-five (entries_in c.args.self) c.args.n c.if-n-lt-COUNT.true) at c.requires

pub returns-then-n-lt-COUNT : goal.returns-then-n-lt-COUNT
unfolding written
returns-then-n-lt-COUNT c =
    let five = text-five (entries_in c.args.self) c.args.n c.if-n-lt-COUNT.true in
    (rw five c.put_five.ensures, omega (arith, c.size_of.ensures, ap length five))

pub put-requires : goal.put-requires
put-requires c =
    let is = c.listed_text-text.ensures.0 ∙ sym (text-listed (entries_in c.args.self) c.args.n c.if-n-lt-COUNT.false) in
    (omega (arith, c.requires, ap length is), omega arith)

pub returns-else-n-lt-COUNT : goal.returns-else-n-lt-COUNT
returns-else-n-lt-COUNT c =
    let is = c.listed_text-text.ensures.0 ∙ sym (text-listed (entries_in c.args.self) c.args.n c.if-n-lt-COUNT.false) in
    (text-laid c.listed_text-text.result.now c.args.out.now _ c.args.at c.put.ensures ∙ ap (written c.args.out.now c.args.at) is, ap (λ (t : List ℕ). c.args.at + length t) is)
