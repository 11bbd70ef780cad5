-- The first term, the other terms, the annotations, the line feed.
use Prim.Native.Nat.{◌<◌}
use native.Mathlib.Omega.{arith}
use lib.ListN.{get_or}
use Rattle.printing.proofs.Digits.{term-long}
use Rattle.printing.proofs.Laying.{rest-long, answer-laid}
use Rattle.printing.proofs.asked.put_answer.Goals as goal

pub put_decimal-second-requires : goal.put_decimal-second-requires
put_decimal-second-requires c =
    let the-args = c.args in
    let the-shared-slice-known = c.type_inv.terms in
    let the-pre = c.requires in
    let small : get_or the-args.terms.now 0 0 < 65536 = omega (arith, the-shared-slice-known 0) in
    omega (arith, the-pre.2, term-long _ small)

pub put_terms-annotations-requires : goal.put_terms-annotations-requires
put_terms-annotations-requires c =
    let the-args = c.args in
    let the-shared-slice-known = c.type_inv.terms in
    let the-pre = c.requires in
    let the-put-decimal = c.put_decimal-second in
    let small : get_or the-args.terms.now 0 0 < 65536 = omega (arith, the-shared-slice-known 0) in
    omega (arith, the-pre.0, the-pre.2, the-put-decimal.ensures.end_is, the-put-decimal.auto.out, term-long _ small, rest-long the-args.terms.now)

pub put_numbers-last-requires : goal.put_numbers-last-requires
put_numbers-last-requires c =
    let the-args = c.args in
    let the-shared-slice-known = c.type_inv.terms in
    let the-pre = c.requires in
    let the-put-decimal = c.put_decimal-second in
    let the-put-terms = c.put_terms-annotations in
    let small : get_or the-args.terms.now 0 0 < 65536 = omega (arith, the-shared-slice-known 0) in
    omega (arith, the-pre.0, the-pre.1, the-pre.2, the-put-decimal.ensures.end_is, the-put-decimal.auto.out, the-put-terms.ensures.laid.end_is, the-put-terms.ensures.within, the-put-terms.auto.out, term-long _ small, rest-long the-args.terms.now)

pub put_line_feed-requires : goal.put_line_feed-requires
put_line_feed-requires c =
    let the-args = c.args in
    let the-shared-slice-known = c.type_inv.terms in
    let the-pre = c.requires in
    let the-put-decimal = c.put_decimal-second in
    let the-put-terms = c.put_terms-annotations in
    let the-put-numbers = c.put_numbers-last in
    let small : get_or the-args.terms.now 0 0 < 65536 = omega (arith, the-shared-slice-known 0) in
    omega (arith, the-pre.0, the-pre.1, the-pre.2, the-put-decimal.ensures.end_is, the-put-decimal.auto.out, the-put-terms.ensures.laid.end_is, the-put-terms.ensures.within, the-put-terms.auto.out, the-put-numbers.ensures.laid.end_is, the-put-numbers.ensures.within, the-put-numbers.auto.out, term-long _ small, rest-long the-args.terms.now)

pub returns : goal.returns
returns c =
    let the-args = c.args in
    let the-shared-slice-known = c.type_inv.terms in
    let the-pre = c.requires in
    let the-put-decimal = c.put_decimal-second in
    let the-put-terms = c.put_terms-annotations in
    let the-put-numbers = c.put_numbers-last in
    let the-put-line-feed = c.put_line_feed in
    let small : get_or the-args.terms.now 0 0 < 65536 = omega (arith, the-shared-slice-known 0) in
    answer-laid the-args.terms.now the-args.anns.now the-pre.0 the-pre.1 small the-args.out.now _ _ _ _ the-args.at _ _ _ _ the-pre.2
    the-put-decimal.ensures the-put-terms.ensures the-put-numbers.ensures the-put-line-feed.ensures
