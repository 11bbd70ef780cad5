-- By the terminal behind the string and white space.
use Rattle.std.proofs.Common.{ap}
use Rattle.ntline.specs.declared.lexing.Kind.TheVariants.{Tag, Hats}
use Rattle.ntline.specs.Kinds.{number_of}
use Rattle.ntline.proofs.Spans.{other_kind, literal-tagged, literal-typed, literal-plain}
use Rattle.ntline.proofs.lines.literal.Goals as goal

pub returns-in-Tag : goal.returns-in-Tag
returns-in-Tag c =
    rw c.literal_term.ensures (literal-tagged c.args.b.now _ _ _ _ _ _ c.requires.0 c.spaced-behind.ensures c.token-t.ensures.0 (ap number_of c.in-Tag.is))

pub returns-in-Hats : goal.returns-in-Hats
returns-in-Hats c =
    literal-typed c.args.b.now _ _ _ _ _ _ c.requires.0 c.spaced-behind.ensures c.token-t.ensures.0 _ (ap number_of c.in-Hats.is) c.typed.ensures

pub returns-in_default : goal.returns-in_default
returns-in_default c =
    rw c.literal_term-in_default.ensures
    (literal-plain c.args.b.now _ _ _ _ _ _ c.requires.0 c.spaced-behind.ensures c.token-t.ensures.0 c.requires.1
    (other_kind _ Tag c.in_default.not-Tag) (other_kind _ Hats c.in_default.not-Hats))
