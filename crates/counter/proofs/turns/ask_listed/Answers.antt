-- Run, and printed.
use Rattle.table.specs.Rows.{lanes}
use Rattle.counter.proofs.Asking.{asked-fits, asked-fronted}
use Rattle.counter.proofs.turns.ask_listed.Goals as goal

pub put_asked-requires : goal.put_asked-requires
put_asked-requires c =
    let the-args = c.args in
    let the-pre = c.requires in
    let the-ask = c.ask-ran in
    asked-fits the-args.kind (lanes the-args.subj.now the-args.pred.now the-args.obj.now the-args.ann.now) the-args.count the-pre.0.sound the-args.terms.now the-args.anns.now the-pre.1 the-pre.2
    the-args.question.now the-args.looks the-args.out.now the-pre.3 _ _ _ _ _ _ the-ask.auto.terms the-ask.auto.anns the-ask.ensures

pub returns : goal.returns
returns c =
    let the-args = c.args in
    let the-pre = c.requires in
    let the-ask = c.ask-ran in
    let the-put-asked = c.put_asked in
    asked-fronted the-args.kind (lanes the-args.subj.now the-args.pred.now the-args.obj.now the-args.ann.now) the-args.count the-pre.0.sound the-args.terms.now the-args.anns.now the-pre.1 the-pre.2
    the-args.question.now the-args.looks the-args.out.now the-pre.3 _ _ _ _ _ _ the-ask.auto.terms the-ask.auto.anns the-ask.ensures _ _ the-put-asked.ensures
