-- By the terminal behind white space.
use Rattle.std.proofs.Common.{ap}
use Rattle.ntline.specs.declared.lexing.Kind.TheVariants.{Iri}
use Rattle.ntline.specs.Kinds.{number_of}
use Rattle.ntline.proofs.Spans.{other_kind, typed_found, typed_missing}
use Rattle.ntline.proofs.lines.typed.Goals as goal

pub returns-in-Iri : goal.returns-in-Iri
returns-in-Iri c =
    rw c.literal_term.ensures (typed_found c.args.b.now _ _ _ _ _ _ _ c.requires.0 c.requires.1 c.spaced-behind.ensures c.token-t.ensures.0 (ap number_of c.in-Iri.is))

pub returns-in_default : goal.returns-in_default
returns-in_default c =
    typed_missing c.args.b.now _ _ _ _ _ _ _ c.requires.0 c.requires.1 c.spaced-behind.ensures c.token-t.ensures.0 (other_kind _ Iri c.in_default.not-Iri)
