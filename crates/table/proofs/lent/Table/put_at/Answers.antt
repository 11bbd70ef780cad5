-- Joined, put in, or full: a law each.
use Rattle.std.proofs.Common.{arith}
use Rattle.annotation.specs.Numbered.{kind_number}
use Rattle.table.proofs.Putting.{put_joined, put_in, put_full}
use Rattle.table.proofs.lent.Table.put_at.Goals as goal

pub returns-then-stands-clause-put : goal.returns-then-stands-clause-put
returns-then-stands-clause-put c =
    let t = c.args.self.now in
    let r = c.rows.ensures in
    let s = rw (r.same_subj, r.same_pred, r.same_obj, r.same_count) at c.stands.ensures in
    let there = s.there c.if-stands.true in
    let e = c.join_at-changed.ensures in
    rw (e.same_subj, e.same_pred, e.same_obj, e.same_count)
    (put_joined (kind_number t.kind) t.subj.now t.pred.now t.obj.now t.ann.now t.count c.args.r.s c.args.r.p c.args.r.o c.args.r.a c.key.result c.args.at
    c.requires.into c.key.ensures (rw c.key.ensures c.requires.placed)
    _ _ there.0 there.1 e.joined)

pub returns-then-self-clause-put : goal.returns-then-self-clause-put
returns-then-self-clause-put c =
    let t = c.args.self.now in
    let r = c.rows.ensures in
    let s = rw (r.same_subj, r.same_pred, r.same_obj, r.same_count) at c.stands.ensures in
    put_full (kind_number t.kind) t.subj.now t.pred.now t.obj.now t.ann.now t.count c.args.r.s c.args.r.p c.args.r.o c.args.r.a c.key.result c.args.at
    c.requires.into c.key.ensures (rw c.key.ensures c.requires.placed)
    (s.missing c.if-stands.false) (omega (arith, c.if-self.true))

pub returns-clause-put : goal.returns-clause-put
returns-clause-put c =
    let t = c.args.self.now in
    let r = c.rows.ensures in
    let s = rw (r.same_subj, r.same_pred, r.same_obj, r.same_count) at c.stands.ensures in
    rw (c.open.ensures, c.open-2.ensures, c.open-3.ensures, c.open-4.ensures)
    (put_in (kind_number t.kind) t.subj.now t.pred.now t.obj.now t.ann.now t.count c.args.r.s c.args.r.p c.args.r.o c.args.r.a c.key.result c.args.at
    c.requires.into c.key.ensures (rw c.key.ensures c.requires.placed)
    (s.missing c.if-stands.false) (omega (arith, c.if-self.false)))
