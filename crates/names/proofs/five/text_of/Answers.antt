-- By the number.
use mathlib.Core.Path.{ap, sym}
use native.Mathlib.Omega.{arith}
use Rattle.names.specs.Five.{rdf_schema, rdf_syntax, five_text}
use Rattle.names.proofs.FiveTexts.{text-4}
use Rattle.names.proofs.five.text_of.Goals as goal

pub returns-in-0 : goal.returns-in-0
unfolding five_text rdf_schema rdf_syntax
returns-in-0 c = ap five_text (sym c.in-0.is)

pub returns-in-1 : goal.returns-in-1
unfolding five_text rdf_schema rdf_syntax
returns-in-1 c = ap five_text (sym c.in-1.is)

pub returns-in-2 : goal.returns-in-2
unfolding five_text rdf_schema rdf_syntax
returns-in-2 c = ap five_text (sym c.in-2.is)

pub returns-in-3 : goal.returns-in-3
unfolding five_text rdf_schema rdf_syntax
returns-in-3 c = ap five_text (sym c.in-3.is)

pub returns-in_default : goal.returns-in_default
unfolding five_text rdf_schema rdf_syntax
returns-in_default c = sym (text-4 c.args.n (λ e. omega arith) (λ e. omega arith) (λ e. omega arith) (λ e. omega arith))
