-- A character and a run at a time.
use Rattle.std.proofs.Common.{Some, None}
use Rattle.nttext.proofs.Filling.{front-none, front-on, span-stops, front_ends}
use Rattle.nttext.proofs.texts.lay_rest.Goals as goal

pub loop-front-init : goal.loop-front-init
loop-front-init c = front-none c.args.s.b.now c.args.from c.args.s.to c.args.s.quoted c.args.out.now c.args.at c.requires.2.rising c.requires.1

pub returns-in_err-front : goal.returns-in_err-front
returns-in_err-front c =
    rw c.from_residual.ensures
    (span-stops c.args.s.b.now c.args.from c.args.s.to c.args.s.quoted c.args.out.now c.args.at _
    (front-on c.args.s.b.now c.args.from c.args.s.to c.args.s.quoted c.args.out.now c.args.at _ c.loop-front.out _ _ _ None c.loop-front.invariant.lays c.loop-front.invariant.lies c.in_err-front.ensures.0))

pub loop-front-preserved : goal.loop-front-preserved
loop-front-preserved c =
    front-on c.args.s.b.now c.args.from c.args.s.to c.args.s.quoted c.args.out.now c.args.at _ c.loop-front.out _ _ _ (Some c.in_ok-front.front) c.loop-front.invariant.lays c.loop-front.invariant.lies c.in_ok-front.ensures.0

pub returns : goal.returns
returns c = front_ends c.args.s.b.now c.args.from c.args.s.to c.args.s.quoted c.args.out.now c.args.at _ _ _ c.loop-front.invariant c.loop-front-test.false
