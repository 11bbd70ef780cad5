-- One to four stores, by the line of the table.
use native.Mathlib.Omega.{arith}
use lib.ListN.{length-set}
use Rattle.utf8.proofs.Laying.{size-one, size-two, size-three, size-four, lay_one, lay_two, lay_three, lay_four}
use Rattle.utf8.proofs.encode.put_char.Goals as goal

pub bounds-out-at : goal.bounds-out-at
bounds-out-at c =
    let the-pre = c.requires in
    let the-args = c.args in
    let the-if1 = c.if-c-le127 in
    omega (arith, the-pre.1, size-one the-args.c the-if1.true)

pub returns-then-c-le127 : goal.returns-then-c-le127
returns-then-c-le127 c =
    let the-args = c.args in
    let the-pre = c.requires in
    let the-if1 = c.if-c-le127 in
    lay_one the-args.out.now the-args.at the-args.c the-pre.1 the-if1.true

pub bounds-out-at-then-c-le2047 : goal.bounds-out-at-then-c-le2047
bounds-out-at-then-c-le2047 c =
    let the-pre = c.requires in
    let the-args = c.args in
    let the-if1 = c.if-c-le127 in
    let the-if2 = c.if-c-le2047 in
    omega (arith, the-pre.1, size-two the-args.c the-if1.false the-if2.true)

pub bounds-out-at-then-c-le2047-2 : goal.bounds-out-at-then-c-le2047-2
bounds-out-at-then-c-le2047-2 c =
    let the-pre = c.requires in
    let the-args = c.args in
    let the-if1 = c.if-c-le127 in
    let the-if2 = c.if-c-le2047 in
    simp length-set (omega (arith, the-pre.1, size-two the-args.c the-if1.false the-if2.true))

pub returns-then-c-le2047 : goal.returns-then-c-le2047
returns-then-c-le2047 c =
    let the-args = c.args in
    let the-pre = c.requires in
    let the-if1 = c.if-c-le127 in
    let the-if2 = c.if-c-le2047 in
    let the-tail = c.tail in
    lay_two the-args.out.now the-args.at the-args.c the-pre.1 the-if1.false the-if2.true _ the-tail.ensures

pub bounds-out-at-then-c-le65535 : goal.bounds-out-at-then-c-le65535
bounds-out-at-then-c-le65535 c =
    let the-pre = c.requires in
    let the-args = c.args in
    let the-if2 = c.if-c-le2047 in
    let the-if3 = c.if-c-le65535 in
    omega (arith, the-pre.1, size-three the-args.c the-if2.false the-if3.true)

pub bounds-out-at-then-c-le65535-2 : goal.bounds-out-at-then-c-le65535-2
bounds-out-at-then-c-le65535-2 c =
    let the-pre = c.requires in
    let the-args = c.args in
    let the-if2 = c.if-c-le2047 in
    let the-if3 = c.if-c-le65535 in
    simp length-set (omega (arith, the-pre.1, size-three the-args.c the-if2.false the-if3.true))

pub bounds-out-at-then-c-le65535-3 : goal.bounds-out-at-then-c-le65535-3
bounds-out-at-then-c-le65535-3 c =
    let the-pre = c.requires in
    let the-args = c.args in
    let the-if2 = c.if-c-le2047 in
    let the-if3 = c.if-c-le65535 in
    simp length-set (omega (arith, the-pre.1, size-three the-args.c the-if2.false the-if3.true))

pub returns-then-c-le65535 : goal.returns-then-c-le65535
returns-then-c-le65535 c =
    let the-args = c.args in
    let the-pre = c.requires in
    let the-if2 = c.if-c-le2047 in
    let the-if3 = c.if-c-le65535 in
    let the-tail2 = c.tail-then-c-le65535 in
    let the-tail3 = c.tail-then-c-le65535-2 in
    lay_three the-args.out.now the-args.at the-args.c the-pre.1 the-if2.false the-if3.true _ _ the-tail2.ensures the-tail3.ensures

pub bounds-out-at-2 : goal.bounds-out-at-2
bounds-out-at-2 c =
    let the-pre = c.requires in
    let the-args = c.args in
    let the-if3 = c.if-c-le65535 in
    omega (arith, the-pre.1, size-four the-args.c the-if3.false)

pub bounds-out-at-3 : goal.bounds-out-at-3
bounds-out-at-3 c =
    let the-pre = c.requires in
    let the-args = c.args in
    let the-if3 = c.if-c-le65535 in
    simp length-set (omega (arith, the-pre.1, size-four the-args.c the-if3.false))

pub bounds-out-at-4 : goal.bounds-out-at-4
bounds-out-at-4 c =
    let the-pre = c.requires in
    let the-args = c.args in
    let the-if3 = c.if-c-le65535 in
    simp length-set (omega (arith, the-pre.1, size-four the-args.c the-if3.false))

pub bounds-out-at-5 : goal.bounds-out-at-5
bounds-out-at-5 c =
    let the-pre = c.requires in
    let the-args = c.args in
    let the-if3 = c.if-c-le65535 in
    simp length-set (omega (arith, the-pre.1, size-four the-args.c the-if3.false))

pub returns : goal.returns
returns c =
    let the-args = c.args in
    let the-pre = c.requires in
    let the-if3 = c.if-c-le65535 in
    let the-tail4 = c.tail-2 in
    let the-tail5 = c.tail-3 in
    let the-tail6 = c.tail-4 in
    lay_four the-args.out.now the-args.at the-args.c the-pre.1 the-if3.false _ _ _ the-tail4.ensures the-tail5.ensures the-tail6.ensures
