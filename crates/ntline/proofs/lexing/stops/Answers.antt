-- At the end, or at a byte that leaves no terminal.
use native.Mathlib.Omega.{arith}
use mathlib.Core.Path.{◌∙◌, sym}
use Rattle.ntline.proofs.Tokens.{stops-end_at, stops-byte}
use Rattle.ntline.proofs.lexing.stops.Goals as goal

pub returns-then-at-end : goal.returns-then-at-end
returns-then-at-end c = λ e. stops-end_at c.args.b.now c.args.at c.args.end c.args.s c.if-at-end.true

pub returns-then-b-at-lt128 : goal.returns-then-b-at-lt128
returns-then-b-at-lt128 c =
    λ e. stops-byte c.args.b.now c.args.at c.args.end c.requires.1 (omega arith) c.from.result c.from.ensures (omega arith) c.args.s c.stepped.result c.stepped.ensures
    (sym c.is_dead.ensures ∙ e)
