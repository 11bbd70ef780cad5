use Rattle.std.proofs.Common.{rules, refl, ◌∙◌, arith}
use Rattle.table.specs.Lent.{lanes_seen}
use Rattle.ntwrite.specs.Listed.{entries_in}
use Rattle.ntriples.proofs.Rows.{none-long, size_step, line-fits, lines_start, lines_step}
use Rattle.ntriples.proofs.put_lines.Goals as goal

pub loop-i-init : goal.loop-i-init
loop-i-init c =
    let es = entries_in c.args.names in
    let l = lanes_seen c.args.rows.now in
    (search rules, lines_start es l c.args.out.now, none-long es l)

pub put_line-at-requires : goal.put_line-at-requires
put_line-at-requires c =
    rw c.row-r.ensures
    (omega (arith, c.requires.1, c.loop-i.invariant.0, c.loop-i.invariant.2, line-fits (entries_in c.args.names) (lanes_seen c.args.rows.now) c.loop-i.i c.args.rows.now.count c.loop-i-test.true))

pub loop-i-preserved : goal.loop-i-preserved
loop-i-preserved c =
    let es = entries_in c.args.names in
    let l = lanes_seen c.args.rows.now in
    let laid = rw c.row-r.ensures at c.put_line-at.ensures in (
      search rules,
      lines_step es l c.args.out.now _ _ c.loop-i.i c.loop-i.at c.args.rows.now.count c.loop-i-test.true c.requires.1 c.loop-i.invariant.2 c.loop-i.invariant.1 laid.0,
      laid.1 ∙ size_step es l c.loop-i.i _ _ c.loop-i.invariant.2 refl,
    )
