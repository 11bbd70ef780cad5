-- It is read as a literal that leaves nothing, and has its own text.
use Rattle.std.proofs.Common.{rules, sym}
use denote.Enum.Bare.{differs_true, differs_false}
use Rattle.ntline.specs.contracts.lines.Sort.{the_type}
use Rattle.nttext.proofs.Judging.{no-term, other-sort, more-behind, literal-there, literal-judged}
use Rattle.nttext.proofs.legal.legal_literal.Goals as goal
use Rattle.nttext.proofs.legal.legal_literal.Goals.{then-ne-via-then-ne, then-ne-via-else-ne+then-t-to}

pub returns-in_default : goal.returns-in_default
returns-in_default c = no-term c.args.text.now c.args.from c.args.to c.in_default.ensures.no_sort

pub returns-then-ne : goal.returns-then-ne
returns-then-ne c = elim c.then-ne.branch [
  | then-ne-via-then-ne w ↦
      other-sort c.args.text.now c.args.from c.args.to c.requires.0 c.requires.1 _ c.in-Ok.ensures (differs_true the_type _ _ (sym w.if-ne.ensures))
  | then-ne-via-else-ne+then-t-to w ↦
      more-behind c.args.text.now c.args.from c.args.to c.requires.0 c.requires.1 _ c.in-Ok.ensures
      (differs_false the_type (search rules) _ _ (sym w.if-ne.ensures)) w.if-t-to.true
]

pub is_text_of-requires : goal.is_text_of-requires
is_text_of-requires c = (
  c.requires.1,
  c.requires.0,
  c.requires.1,
  literal-there c.args.text.now c.args.from c.args.to c.requires.0 c.requires.1 _ c.in-Ok.ensures
      (differs_false the_type (search rules) _ _ (sym c.if-ne.ensures)) c.if-t-to.false,
)

pub returns : goal.returns
returns c =
    literal-judged c.args.text.now c.args.from c.args.to c.requires.0 c.requires.1 _ c.in-Ok.ensures
    (differs_false the_type (search rules) _ _ (sym c.if-ne.ensures)) c.if-t-to.false _ c.is_text_of.ensures
