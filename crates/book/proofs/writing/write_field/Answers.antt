-- Tag and length, three terms, the annotation.
use Rattle.table.specs.Rows.{row}
use Rattle.book.proofs.Writes.{field_written}
use Rattle.book.proofs.writing.write_field.Goals as goal

pub returns : goal.returns
returns c =
    let the-args = c.args in
    let the-pre = c.requires in
    let the-put-front = c.put_front in
    let the-put-two = c.put_two in
    let the-put-two2 = c.put_two-2 in
    let the-put-two3 = c.put_two-3 in
    let the-put-eight = c.put_eight in
    field_written the-args.out.now _ _ _ _ _ the-args.at (row the-args.r.s the-args.r.p the-args.r.o the-args.r.a) (the-pre)
    the-put-front.ensures the-put-two.ensures the-put-two2.ensures the-put-two3.ensures the-put-eight.ensures
