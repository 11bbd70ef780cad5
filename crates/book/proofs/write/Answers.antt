-- Refused, or the head and then the fields.
use Rattle.std.proofs.Common.{ap, arith}
use Rattle.term.specs.declared.refusal.Verdict.{Verdict}
use Rattle.term.specs.Refused.{verdict_of}
use Rattle.table.specs.Rows.{lanes}
use Rattle.table.proofs.Soundness.{sound-rows_within}
use Rattle.book.proofs.Writes.{write_refused, write_sound, write_room, write_done}
use Rattle.book.proofs.write.Goals as goal

pub returns-in-Err : goal.returns-in-Err
returns-in-Err c = let a = c.args in rw c.number.ensures (write_refused a.kind a.base a.rules (lanes a.subj.now a.pred.now a.obj.now a.ann.now) a.count a.out.now (verdict_of c.in-Err.e) c.in-Err.ensures)

pub write_head-requires : goal.write_head-requires
write_head-requires c =
    let a = c.args in
    let p = c.in-Ok.ensures in
    rw p.rules_is (omega (arith, write_room a.kind a.base a.rules (lanes a.subj.now a.pred.now a.obj.now a.ann.now) a.count a.out.now (ap (λ (v : Verdict). v.number) p.all)))

pub write_fields-requires : goal.write_fields-requires
write_fields-requires c =
    let a = c.args in
    let p = c.in-Ok.ensures in
    let s = write_sound a.kind a.base a.rules (lanes a.subj.now a.pred.now a.obj.now a.ann.now) a.count a.out.now (ap (λ (v : Verdict). v.number) p.all) in
    let front = rw p.rules_is at c.head_size.ensures in
    record { rows = sound-rows_within s; bytes = omega (arith, front, c.write_head.auto.out, write_room a.kind a.base a.rules (lanes a.subj.now a.pred.now a.obj.now a.ann.now) a.count a.out.now (ap (λ (v : Verdict). v.number) p.all)) }

pub book_length-requires : goal.book_length-requires
book_length-requires c =
    let a = c.args in
    let s = write_sound a.kind a.base a.rules (lanes a.subj.now a.pred.now a.obj.now a.ann.now) a.count a.out.now (ap (λ (v : Verdict). v.number) c.in-Ok.ensures.all) in
    omega (arith, s.within, s.long)

pub returns-in-Ok : goal.returns-in-Ok
returns-in-Ok c =
    let a = c.args in
    let p = c.in-Ok.ensures in
    let head = rw (p.kind_is, p.rules_is) at c.write_head.ensures in
    let front = rw p.rules_is at c.head_size.ensures in
    let long = rw p.rules_is at c.book_length.ensures in
    write_done a.kind a.base a.rules (lanes a.subj.now a.pred.now a.obj.now a.ann.now) a.count a.out.now (ap (λ (v : Verdict). v.number) p.all) p.all _ _ _ _ head front c.write_fields.ensures long
