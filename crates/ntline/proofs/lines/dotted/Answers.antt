-- The dot, and the end.
use Rattle.std.proofs.Common.{ap}
use Rattle.ntline.specs.declared.lexing.Kind.TheVariants.{Dot}
use Rattle.ntline.specs.Kinds.{number_of}
use Rattle.ntline.proofs.Spans.{other_kind, dotted_over, not-dotted}
use Rattle.ntline.proofs.lines.dotted.Goals as goal

pub returns-in-Dot : goal.returns-in-Dot
returns-in-Dot c = dotted_over c.args.b.now _ _ _ _ _ c.spaced-from.ensures c.token-t.ensures.0 (ap number_of c.in-Dot.is) _ c.over.ensures

pub returns-in_default : goal.returns-in_default
returns-in_default c = not-dotted c.args.b.now _ _ _ _ _ c.spaced-from.ensures c.token-t.ensures.0 (other_kind _ Dot c.in_default.not-Dot)
