-- The bytes behind the blocks, by the test.
use Rattle.std.proofs.Common.{refl}
use Rattle.ntline.specs.Runs.{plain_byte}
use Rattle.ntline.proofs.Passing.{run_on}
use Rattle.ntline.proofs.runs.plain_run.Goals as goal

pub returns : goal.returns
returns c =
    run_on (plain_byte c.args.blank) c.args.b.now c.args.at c.args.end c.plain_blocks-behind.result c.run.result c.plain_blocks-behind.ensures
    (record { later = c.run.ensures.later; within = c.run.ensures.inside; each = λ k l m. c.run.ensures.each k l m refl })
