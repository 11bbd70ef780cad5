-- All of the mark is compared.
use Rattle.nttext.proofs.Parts.{mark_compared}
use Rattle.nttext.proofs.texts.is_mark.Goals as goal

pub returns : goal.returns
returns c = rw c.eq.ensures (mark_compared _ c.args.mark.now _ c.match_span.ensures)
