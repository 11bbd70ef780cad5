-- A character and a run at a time.
use Rattle.nttext.proofs.Matching.{match_goes, match_stops, match_ends}
use Rattle.nttext.proofs.texts.match_span.Goals as goal

pub returns-in_err-mid : goal.returns-in_err-mid
returns-in_err-mid c =
    rw c.from_residual.ensures
    (match_stops c.args.s.b.now c.args.from c.args.s.to c.args.s.quoted c.args.out.now c.args.at c.args.end _ _ _ c.unit-k.result c.loop-i.invariant c.unit-k.ensures c.in_err-mid.ensures)

pub loop-i-preserved : goal.loop-i-preserved
loop-i-preserved c =
    match_goes c.args.s.b.now c.args.from c.args.s.to c.args.s.quoted c.args.out.now c.args.at c.args.end _ _ _ _ c.unit-k.result c.loop-i.invariant c.unit-k.ensures c.in_ok-mid.ensures c.same_run-more.ensures

pub returns : goal.returns
returns c = match_ends c.args.s.b.now c.args.from c.args.s.to c.args.s.quoted c.args.out.now c.args.at c.args.end _ _ c.loop-i.invariant c.loop-i-test.false
