-- The bytes behind the length, and those behind them.
use Rattle.counter.proofs.Nexts.{came_whole}
use Rattle.counter.proofs.next.part_of.Goals as goal

pub returns-in-Some : goal.returns-in-Some
returns-in-Some c =
    let found = c.in-Some.ensures.lookup.0 in
    came_whole c.args.s.now c.in-Some.bytes.now c.length_of.result c.in-len2-up.len_at_least c.length_of.ensures.0 found.1 found.2
