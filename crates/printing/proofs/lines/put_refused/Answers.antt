-- The word's bytes are its letters.
use Rattle.ground.specs.Lists.{tab}
use Rattle.printing.specs.Text.{bytes_of}
use Rattle.printing.proofs.lines.put_refused.Goals as goal

pub returns : goal.returns
unfolding bytes_of tab
returns c =
    let the-put-line = c.put_line in
    the-put-line.ensures
