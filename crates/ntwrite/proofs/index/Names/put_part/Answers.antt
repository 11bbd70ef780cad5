-- The term, then the blank.
use mathlib.Core.Path.{refl}
use Rattle.ntwrite.specs.Listed.{entries_in}
use Rattle.ntwrite.proofs.Pieces.{part-laid}
use Rattle.ntwrite.proofs.index.Names.put_part.Goals as goal

pub returns : goal.returns
returns c = part-laid (entries_in c.args.self) c.args.n c.args.out.now _ _ c.args.at c.put_term-end.result c.requires c.put_term-end.ensures.1 c.put_term-end.ensures.0 refl
