-- The word, the numbers, the line feed.
use Rattle.printing.proofs.Laying.{line-laid}
use Rattle.printing.proofs.lines.put_line.Goals as goal

pub returns : goal.returns
returns c =
    let a = c.args in
    line-laid a.first.now a.numbers.now a.out.now _ _ _ a.at _ _ _ c.requires c.put-behind.ensures c.put_numbers-last.ensures.laid c.put_line_feed.ensures
