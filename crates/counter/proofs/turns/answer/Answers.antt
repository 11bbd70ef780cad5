-- No question, no room, or an answer.
use Rattle.table.specs.Rows.{lanes}
use Rattle.counter.proofs.Turning.{turn_ended, turn_cut, turn_full, closed-ready, turn_asked}
use Rattle.counter.proofs.turns.answer.Goals as goal

pub returns-in-Ended : goal.returns-in-Ended
returns-in-Ended c =
    let a = c.args in
    rw (c.last.ensures.0, c.last.ensures.1) (turn_ended a.looks a.kind a.rules c.requires.4 (lanes a.subj.now a.pred.now a.obj.now a.ann.now) a.count c.requires.0 a.s.now a.out.now a.out.now 0 c.in-Ended.ensures _ _)

pub returns-in-Cut : goal.returns-in-Cut
returns-in-Cut c =
    let a = c.args in
    rw (c.last-in-Cut.ensures.0, c.last-in-Cut.ensures.1) (turn_cut a.looks a.kind a.rules c.requires.4 (lanes a.subj.now a.pred.now a.obj.now a.ann.now) a.count c.requires.0 a.s.now a.out.now _ c.put_refused.result c.in-Cut.ensures c.requires.3 _ _ c.put_refused.ensures)

pub returns-then-closed-gt0 : goal.returns-then-closed-gt0
returns-then-closed-gt0 c =
    let a = c.args in
    rw (c.last-then-closed-gt0.ensures.0, c.last-then-closed-gt0.ensures.1)
    (turn_full a.looks a.kind a.rules c.requires.4 (lanes a.subj.now a.pred.now a.obj.now a.ann.now) a.count c.requires.0 a.s.now a.out.now _ c.put_refused-then-closed-gt0.result c.in-Whole.question.now c.in-Whole.ensures.0 c.in-Whole.ensures.1 _ _ _ _ c.close-closed.ensures c.if-closed-gt0.true c.requires.3 _ c.put_refused-then-closed-gt0.ensures)

pub ask_listed-size-requires : goal.ask_listed-size-requires
ask_listed-size-requires c =
    let a = c.args in
    (closed-ready a.looks a.kind a.rules c.requires.4 (lanes a.subj.now a.pred.now a.obj.now a.ann.now) a.count c.requires.0 a.s.now a.out.now a.out.now 0 c.in-Whole.question.now c.in-Whole.ensures.0 c.in-Whole.ensures.1 _ _ _ _ c.close-closed.ensures c.if-closed-gt0.false, c.requires.1, c.requires.2, c.requires.3)

pub returns : goal.returns
returns c =
    let a = c.args in
    turn_asked a.looks a.kind a.rules c.requires.4 (lanes a.subj.now a.pred.now a.obj.now a.ann.now) a.count c.requires.0 a.s.now a.out.now _ c.ask_listed-size.result c.in-Whole.question.now c.in-Whole.ensures.0 c.in-Whole.ensures.1 _ _ _ _ c.close-closed.ensures c.if-closed-gt0.false c.ask_listed-size.ensures
