-- One part behind another.
use mathlib.Core.List.{[]}
use Rattle.ntwrite.specs.Listed.{entries_in}
use Rattle.ntwrite.proofs.Pieces.{line-laid, line-end}
use Rattle.ntwrite.proofs.index.Names.put_line.Goals as goal

pub returns : goal.returns
returns c =
    let es = entries_in c.args.self in
    let a = c.put_part-second in
    let b = c.put_part-third in
    let d = c.put_part-last in (
      line-laid es c.args.s c.args.p c.args.o c.args.out.now _ _ _ _ c.args.at a.result b.result d.result c.requires a.ensures.1 b.ensures.1 d.ensures.1 a.ensures.0 b.ensures.0 d.ensures.0 c.put_pair.ensures,
      line-end es c.args.s c.args.p c.args.o c.args.out.now _ [] [] [] c.args.at a.result b.result d.result c.requires a.ensures.1 b.ensures.1 d.ensures.1 a.ensures.0,
    )
