-- By its first terminal.
use Rattle.std.proofs.Common.{ap}
use Rattle.ntline.specs.declared.lexing.Kind.TheVariants.{Iri, Label, String}
use Rattle.ntline.specs.Kinds.{number_of}
use Rattle.ntline.proofs.Spans.{other_kind, term-iri, term-label, term-string, term-none}
use Rattle.ntline.proofs.lines.term.Goals as goal

pub returns-in-Iri : goal.returns-in-Iri
returns-in-Iri c = rw c.short_term.ensures (term-iri c.args.b.now _ _ _ _ _ c.spaced-from.ensures c.token-t.ensures.0 (ap number_of c.in-Iri.is))

pub returns-in-Label : goal.returns-in-Label
returns-in-Label c = rw c.short_term-in-Label.ensures (term-label c.args.b.now _ _ _ _ _ c.spaced-from.ensures c.token-t.ensures.0 (ap number_of c.in-Label.is))

pub returns-in-String : goal.returns-in-String
returns-in-String c = term-string c.args.b.now _ _ _ _ _ c.spaced-from.ensures c.token-t.ensures.0 _ (ap number_of c.in-String.is) c.literal.ensures

pub returns-in_default : goal.returns-in_default
returns-in_default c =
    rw c.no_term.ensures
    (term-none c.args.b.now _ _ _ _ _ c.spaced-from.ensures c.token-t.ensures.0
    (other_kind _ Iri c.in_default.not-Iri) (other_kind _ Label c.in_default.not-Label) (other_kind _ String c.in_default.not-String))
