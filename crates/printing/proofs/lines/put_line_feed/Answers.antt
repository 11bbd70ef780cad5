-- One byte.
use mathlib.Core.Path.{refl}
use Rattle.printing.proofs.Laying.{laid-byte}
use Rattle.printing.proofs.lines.put_line_feed.Goals as goal

pub returns : goal.returns
returns c =
    let the-args = c.args in
    let the-pre = c.requires in
    laid-byte the-args.out.now _ the-args.at 10 (the-pre) refl
