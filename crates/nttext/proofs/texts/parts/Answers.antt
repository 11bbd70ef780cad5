-- By the term's sort, and a literal's mark.
use Rattle.std.proofs.Common.{ap}
use native.Mathlib.Omega.{arith}
use Rattle.ntline.specs.Kinds.{sort_number}
use Rattle.nttext.proofs.Parts.{name_has, parts-name, parts-blank, mark_there, tail-inside, parts-plain, parts-marked}
use Rattle.nttext.proofs.texts.parts.Goals as goal

pub overflow_sub-result : goal.overflow_sub-result
overflow_sub-result c = omega (arith, name_has c.args.b.now c.args.end c.requires.0 c.args.t c.requires.1 (ap sort_number c.in-Name.is))

pub overflow_sub-result-in-Name : goal.overflow_sub-result-in-Name
overflow_sub-result-in-Name c = omega (arith, name_has c.args.b.now c.args.end c.requires.0 c.args.t c.requires.1 (ap sort_number c.in-Name.is))

pub is_plain-requires : goal.is_plain-requires
is_plain-requires c = (tail-inside c.args.b.now c.args.end c.requires.0 c.args.t c.requires.1, mark_there c.args.b.now c.args.end c.requires.0 c.args.t c.requires.1)

pub returns-in-Name : goal.returns-in-Name
returns-in-Name c = parts-name c.args.b.now c.args.end c.requires.0 c.args.t c.requires.1 (ap sort_number c.in-Name.is)

pub returns-in-Blank : goal.returns-in-Blank
returns-in-Blank c = parts-blank c.args.b.now c.args.end c.requires.0 c.args.t c.requires.1 (ap sort_number c.in-Blank.is)

pub returns-then-is_plain : goal.returns-then-is_plain
returns-then-is_plain c =
    let two = ap sort_number c.in-Literal.is in
    parts-plain c.args.b.now c.args.end c.requires.0 c.args.t c.requires.1 (λ e. omega arith) (λ e. omega arith) c.if-is_plain.ensures

pub returns-else-is_plain : goal.returns-else-is_plain
returns-else-is_plain c =
    let two = ap sort_number c.in-Literal.is in
    parts-marked c.args.b.now c.args.end c.requires.0 c.args.t c.requires.1 (λ e. omega arith) (λ e. omega arith) c.if-is_plain.ensures
