-- A run, and what is left behind it.
use Rattle.nttext.proofs.Filling.{span-on}
use Rattle.nttext.proofs.texts.lay_span.Goals as goal

pub returns : goal.returns
returns c = span-on c.args.s.b.now c.args.from c.args.s.to c.args.s.quoted c.args.out.now c.args.at _ _ _ _ _ c.in_ok-front.ensures c.lay_rest.ensures
