-- A character, and the run behind it where the character fits.
use Rattle.nttext.proofs.Filling.{front-on, front-later}
use Rattle.nttext.proofs.texts.lay_next.Goals as goal

pub returns : goal.returns
returns c = (
  front-on c.args.s.b.now c.args.from c.args.s.to c.args.s.quoted c.args.out.now c.args.at _ _ _ _ _ _ c.unit-k.ensures.lays c.in_ok-last.ensures c.lay_plain.ensures,
  front-later c.args.s.b.now c.args.from c.args.s.to c.args.s.quoted c.args.out.now c.args.at _ _ _ _ _ c.lay_plain.result c.unit-k.ensures.passes c.lay_plain.ensures,
)
