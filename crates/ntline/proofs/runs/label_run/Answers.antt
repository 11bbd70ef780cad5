-- By the test.
use Rattle.std.proofs.Common.{refl}
use Rattle.ntline.proofs.runs.label_run.Goals as goal

pub returns : goal.returns
returns c = record { later = c.run.ensures.later; within = c.run.ensures.inside; each = λ k l m. c.run.ensures.each k l m refl }
