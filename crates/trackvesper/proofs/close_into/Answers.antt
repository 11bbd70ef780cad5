-- Refused in reading, in closing or in writing, or written.
use Rattle.trackvesper.proofs.Exported.{place-small, export_unread, close_place, export_full, write_place, same_out, export_short, size_small, export_written}
use Rattle.trackvesper.proofs.close_into.Goals as goal

pub pack-requires : goal.pack-requires
pack-requires c =
    let the-args = c.args in
    let the-pre = c.requires in
    let the-read = c.read-head in
    place-small the-args.book.now the-args.out.now _ _ _ _ _ _ _ (rw (the-pre) at the-read.ensures)

pub returns-then-head-gt0 : goal.returns-then-head-gt0
returns-then-head-gt0 c =
    let the-pack = c.pack in
    let the-args = c.args in
    let the-pre = c.requires in
    let the-read = c.read-head in
    let the-if1 = c.if-head-gt0 in
    rw the-pack.ensures (export_unread the-args.book.now the-args.out.now _ _ _ _ _ _ _ (rw (the-pre) at the-read.ensures) the-if1.true)

pub pack-requires-then-closed-gt0 : goal.pack-requires-then-closed-gt0
pack-requires-then-closed-gt0 c =
    let the-args = c.args in
    let the-pre = c.requires in
    let the-read = c.read-head in
    let the-if1 = c.if-head-gt0 in
    let the-close = c.close-closed in
    close_place the-args.book.now the-args.out.now _ _ _ _ _ _ _ (rw (the-pre) at the-read.ensures) the-if1.false _ _ _ _ the-close.ensures

pub returns-then-closed-gt0 : goal.returns-then-closed-gt0
returns-then-closed-gt0 c =
    let the-pack2 = c.pack-then-closed-gt0 in
    let the-args = c.args in
    let the-pre = c.requires in
    let the-read = c.read-head in
    let the-if1 = c.if-head-gt0 in
    let the-close = c.close-closed in
    let the-if2 = c.if-closed-gt0 in
    rw the-pack2.ensures (export_full the-args.book.now the-args.out.now _ _ _ _ _ _ _ (rw (the-pre) at the-read.ensures) the-if1.false _ _ _ _ the-close.ensures the-if2.true)

pub pack-requires-then-done-gt0 : goal.pack-requires-then-done-gt0
pack-requires-then-done-gt0 c =
    let the-args = c.args in
    let the-pre = c.requires in
    let the-read = c.read-head in
    let the-if1 = c.if-head-gt0 in
    let the-close = c.close-closed in
    let the-if2 = c.if-closed-gt0 in
    let the-write = c.write-done in
    write_place the-args.book.now the-args.out.now _ _ _ _ _ _ _ (rw (the-pre) at the-read.ensures) the-if1.false _ _ _ _ the-close.ensures the-if2.false _ _ _ _ the-write.ensures

pub returns-then-done-gt0 : goal.returns-then-done-gt0
returns-then-done-gt0 c =
    let the-pack3 = c.pack-then-done-gt0 in
    let the-args = c.args in
    let the-pre = c.requires in
    let the-read = c.read-head in
    let the-if1 = c.if-head-gt0 in
    let the-close = c.close-closed in
    let the-if2 = c.if-closed-gt0 in
    let the-write = c.write-done in
    let the-if3 = c.if-done-gt0 in
    rw the-pack3.ensures (export_short the-args.book.now the-args.out.now _ _ _ _ _ _ _ (rw (the-pre) at the-read.ensures) the-if1.false _ _ _ _ the-close.ensures the-if2.false _ _ _ _ the-write.ensures the-if3.true (same_out the-args.book.now the-args.out.now _ _ _ _ _ _ _ (rw (the-pre) at the-read.ensures) the-if1.false _ _ _ _ the-close.ensures the-if2.false _ _ _ _ the-write.ensures the-if3.true))

pub pack-requires-2 : goal.pack-requires-2
pack-requires-2 c =
    let the-args = c.args in
    let the-pre = c.requires in
    let the-read = c.read-head in
    let the-if1 = c.if-head-gt0 in
    let the-close = c.close-closed in
    let the-if2 = c.if-closed-gt0 in
    let the-write = c.write-done in
    let the-if3 = c.if-done-gt0 in
    size_small the-args.book.now the-args.out.now _ _ _ _ _ _ _ (rw (the-pre) at the-read.ensures) the-if1.false _ _ _ _ the-close.ensures the-if2.false _ _ _ _ the-write.ensures the-if3.false

pub returns : goal.returns
returns c =
    let the-pack4 = c.pack-2 in
    let the-args = c.args in
    let the-pre = c.requires in
    let the-read = c.read-head in
    let the-if1 = c.if-head-gt0 in
    let the-close = c.close-closed in
    let the-if2 = c.if-closed-gt0 in
    let the-write = c.write-done in
    let the-if3 = c.if-done-gt0 in
    rw the-pack4.ensures (export_written the-args.book.now the-args.out.now _ _ _ _ _ _ _ (rw (the-pre) at the-read.ensures) the-if1.false _ _ _ _ the-close.ensures the-if2.false _ _ _ _ the-write.ensures the-if3.false)
