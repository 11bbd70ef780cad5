-- One number behind another.
use native.Mathlib.Omega.{arith}
use Rattle.printing.proofs.Laying.{row_laid, row-length}
use Rattle.printing.proofs.closed.put_row.Goals as goal

pub put_decimal-second-requires : goal.put_decimal-second-requires
put_decimal-second-requires c =
    let the-pre = c.requires in
    let the-args = c.args in
    omega (arith, the-pre, row-length the-args.s the-args.p the-args.o the-args.a)

pub put_behind_blank-third-requires : goal.put_behind_blank-third-requires
put_behind_blank-third-requires c =
    let the-pre = c.requires in
    let the-args = c.args in
    let the-put-decimal = c.put_decimal-second in
    omega (arith, the-pre, row-length the-args.s the-args.p the-args.o the-args.a, the-put-decimal.ensures.end_is, the-put-decimal.auto.out)

pub put_behind_blank-fourth-requires : goal.put_behind_blank-fourth-requires
put_behind_blank-fourth-requires c =
    let the-pre = c.requires in
    let the-args = c.args in
    let the-put-decimal = c.put_decimal-second in
    let the-put-behind-blank = c.put_behind_blank-third in
    omega (arith, the-pre, row-length the-args.s the-args.p the-args.o the-args.a, the-put-decimal.ensures.end_is, the-put-decimal.auto.out, the-put-behind-blank.ensures.end_is, the-put-behind-blank.auto.out)

pub put_behind_blank-last-requires : goal.put_behind_blank-last-requires
put_behind_blank-last-requires c =
    let the-pre = c.requires in
    let the-args = c.args in
    let the-put-decimal = c.put_decimal-second in
    let the-put-behind-blank = c.put_behind_blank-third in
    let the-put-behind-blank2 = c.put_behind_blank-fourth in
    omega (arith, the-pre, row-length the-args.s the-args.p the-args.o the-args.a, the-put-decimal.ensures.end_is, the-put-decimal.auto.out, the-put-behind-blank.ensures.end_is, the-put-behind-blank.auto.out, the-put-behind-blank2.ensures.end_is, the-put-behind-blank2.auto.out)

pub put_line_feed-requires : goal.put_line_feed-requires
put_line_feed-requires c =
    let the-pre = c.requires in
    let the-args = c.args in
    let the-put-decimal = c.put_decimal-second in
    let the-put-behind-blank = c.put_behind_blank-third in
    let the-put-behind-blank2 = c.put_behind_blank-fourth in
    let the-put-behind-blank3 = c.put_behind_blank-last in
    omega (arith, the-pre, row-length the-args.s the-args.p the-args.o the-args.a, the-put-decimal.ensures.end_is, the-put-decimal.auto.out, the-put-behind-blank.ensures.end_is, the-put-behind-blank.auto.out, the-put-behind-blank2.ensures.end_is, the-put-behind-blank2.auto.out, the-put-behind-blank3.ensures.end_is, the-put-behind-blank3.auto.out)

pub returns : goal.returns
returns c =
    let the-args = c.args in
    let the-pre = c.requires in
    let the-put-decimal = c.put_decimal-second in
    let the-put-behind-blank = c.put_behind_blank-third in
    let the-put-behind-blank2 = c.put_behind_blank-fourth in
    let the-put-behind-blank3 = c.put_behind_blank-last in
    let the-put-line-feed = c.put_line_feed in
    row_laid the-args.s the-args.p the-args.o the-args.a the-args.out.now _ _ _ _ _ the-args.at _ _ _ _ _ (the-pre) the-put-decimal.ensures the-put-behind-blank.ensures the-put-behind-blank2.ensures the-put-behind-blank3.ensures the-put-line-feed.ensures
