-- Bytes as they stand, where they fit.
use Rattle.nttext.proofs.Filling.{run_laid}
use Rattle.nttext.proofs.texts.lay_run.Goals as goal

pub returns : goal.returns
returns c = run_laid c.args.b.now c.args.from c.args.to c.requires.0 c.requires.1 c.args.out.now _ c.args.at c.requires.2 c.if-out-at.false c.put.ensures
