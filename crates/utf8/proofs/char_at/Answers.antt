-- Nothing left, one byte, cut, or what two, three, four bytes are.
use Rattle.utf8.proofs.Standing.{at_end, at_one, at_cut_two, at_two, at_cut_three, at_three, at_cut_four, at_four}
use Rattle.utf8.proofs.char_at.Goals as goal

pub returns-then-end-at : goal.returns-then-end-at
returns-then-end-at c =
    let the-args = c.args in
    let the-pre = c.requires in
    let the-if1 = c.if-end-at in
    at_end the-args.b.now the-args.at the-args.end (the-pre) the-if1.true

pub returns-then-x-lt128 : goal.returns-then-x-lt128
returns-then-x-lt128 c =
    let the-args = c.args in
    let the-pre = c.requires in
    let the-if1 = c.if-end-at in
    let the-from = c.from-x in
    let the-if2 = c.if-x-lt128 in
    at_one the-args.b.now the-args.at the-args.end (the-pre) the-if1.false the-from.result the-from.ensures the-if2.true

pub returns-then-left-lt2 : goal.returns-then-left-lt2
returns-then-left-lt2 c =
    let the-args = c.args in
    let the-pre = c.requires in
    let the-if1 = c.if-end-at in
    let the-from = c.from-x in
    let the-if2 = c.if-x-lt128 in
    let the-if3 = c.if-left-lt2 in
    at_cut_two the-args.b.now the-args.at the-args.end (the-pre) the-if1.false the-from.result the-from.ensures the-if2.false the-if3.true

pub returns-then-x-lt224 : goal.returns-then-x-lt224
returns-then-x-lt224 c =
    let the-args = c.args in
    let the-pre = c.requires in
    let the-if1 = c.if-end-at in
    let the-from = c.from-x in
    let the-from2 = c.from-y in
    let the-two = c.two in
    let the-if2 = c.if-x-lt128 in
    let the-if4 = c.if-x-lt224 in
    let the-if3 = c.if-left-lt2 in
    at_two the-args.b.now the-args.at the-args.end (the-pre) the-if1.false the-from.result the-from.ensures _ the-from2.result the-from2.ensures the-two.ensures the-if2.false the-if4.true the-if3.false

pub returns-then-left-lt3 : goal.returns-then-left-lt3
returns-then-left-lt3 c =
    let the-args = c.args in
    let the-pre = c.requires in
    let the-if1 = c.if-end-at in
    let the-from = c.from-x in
    let the-if4 = c.if-x-lt224 in
    let the-if5 = c.if-left-lt3 in
    at_cut_three the-args.b.now the-args.at the-args.end (the-pre) the-if1.false the-from.result the-from.ensures the-if4.false the-if5.true

pub returns-then-x-lt240 : goal.returns-then-x-lt240
returns-then-x-lt240 c =
    let the-args = c.args in
    let the-pre = c.requires in
    let the-if1 = c.if-end-at in
    let the-from = c.from-x in
    let the-from2 = c.from-y in
    let the-from3 = c.from-z in
    let the-three = c.three in
    let the-if4 = c.if-x-lt224 in
    let the-if6 = c.if-x-lt240 in
    let the-if5 = c.if-left-lt3 in
    at_three the-args.b.now the-args.at the-args.end (the-pre) the-if1.false the-from.result the-from.ensures _ the-from2.result the-from2.ensures the-from3.result the-from3.ensures the-three.ensures the-if4.false the-if6.true the-if5.false

pub returns-then-left-lt4 : goal.returns-then-left-lt4
returns-then-left-lt4 c =
    let the-args = c.args in
    let the-pre = c.requires in
    let the-if1 = c.if-end-at in
    let the-from = c.from-x in
    let the-if6 = c.if-x-lt240 in
    let the-if7 = c.if-left-lt4 in
    at_cut_four the-args.b.now the-args.at the-args.end (the-pre) the-if1.false the-from.result the-from.ensures the-if6.false the-if7.true

pub returns : goal.returns
returns c =
    let the-args = c.args in
    let the-pre = c.requires in
    let the-if1 = c.if-end-at in
    let the-from = c.from-x in
    let the-from2 = c.from-y in
    let the-from3 = c.from-z in
    let the-from4 = c.from in
    let the-four = c.four in
    let the-if6 = c.if-x-lt240 in
    let the-if7 = c.if-left-lt4 in
    at_four the-args.b.now the-args.at the-args.end (the-pre) the-if1.false the-from.result the-from.ensures _ the-from2.result the-from2.ensures the-from3.result the-from3.ensures the-from4.result the-from4.ensures the-four.ensures the-if6.false the-if7.false
