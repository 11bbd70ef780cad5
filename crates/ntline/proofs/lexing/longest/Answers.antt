-- From the start.
use Rattle.ntline.proofs.Tokens.{loop_start}
use Rattle.ntline.proofs.lexing.longest.Goals as goal

pub longest_from-requires : goal.longest_from-requires
longest_from-requires c =
    let the-args = c.args in
    let the-pre = c.requires in
    (the-pre.1, loop_start the-args.b.now the-args.at the-args.end the-pre.0)
