-- The annotation slot stands nine bytes into the value.
use Rattle.parts.specs.Format.{pattern_at}
use Rattle.parts.proofs.outside.triple_annotation.Goals as goal

pub returns : goal.returns
unfolding pattern_at
returns c = c.annotation_vars.ensures
