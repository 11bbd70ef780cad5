-- The row in the middle decides.
use Rattle.table.proofs.Searching.{halved_up, halved_down}
use Rattle.table.proofs.lent.Rows.halve.Goals as goal

pub returns-then-key_at-key : goal.returns-then-key_at-key
returns-then-key_at-key c =
    let the-args = c.args in
    let the-pre = c.requires in
    let the-key-at = c.key_at in
    let the-if1 = c.if-key_at-key in
    halved_up the-args.self.now.subj.now the-args.self.now.pred.now the-args.self.now.obj.now the-args.self.now.count the-args.key the-args.low the-args.high (the-pre) (rw (← the-key-at.ensures) the-if1.true)

pub returns : goal.returns
returns c =
    let the-args = c.args in
    let the-pre = c.requires in
    let the-key-at = c.key_at in
    let the-if1 = c.if-key_at-key in
    halved_down the-args.self.now.subj.now the-args.self.now.pred.now the-args.self.now.obj.now the-args.self.now.count the-args.key the-args.low the-args.high (the-pre) (rw (← the-key-at.ensures) the-if1.false)
