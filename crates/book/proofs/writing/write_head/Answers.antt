-- Tag and length, edition and kind, base year, rule set.
use native.Mathlib.Omega.{arith}
use Rattle.book.specs.Format.{edition_for}
use Rattle.ruleset.specs.Numbered.{set_number}
use Rattle.book.proofs.Heads.{length_from}
use Rattle.book.proofs.Writes.{head_written}
use Rattle.book.proofs.writing.write_head.Goals as goal

pub put_front-requires : goal.put_front-requires
put_front-requires c =
    let the-pre = c.requires in
    let the-args = c.args in
    omega (arith, the-pre, length_from (edition_for (set_number the-args.rules)))

pub put_pair-requires : goal.put_pair-requires
put_pair-requires c =
    let the-pre = c.requires in
    let the-args = c.args in
    omega (arith, the-pre, length_from (edition_for (set_number the-args.rules)))

pub put_two-requires : goal.put_two-requires
put_two-requires c =
    let the-pre = c.requires in
    let the-args = c.args in
    omega (arith, the-pre, length_from (edition_for (set_number the-args.rules)))

pub put_rules-requires : goal.put_rules-requires
put_rules-requires c =
    let the-pre = c.requires in
    omega (arith, the-pre)

pub returns : goal.returns
returns c =
    let the-args = c.args in
    let the-pre = c.requires in
    let the-edition-for = c.edition_for-edition in
    let the-head-length = c.head_length-size in
    let the-put-front = c.put_front in
    let the-put-pair = c.put_pair in
    let the-put-two = c.put_two in
    let the-put-rules = c.put_rules in
    rw (← c.number.ensures) (head_written the-args.out.now _ _ _ _ _ _ (set_number the-args.rules) the-pre _ _ the-edition-for.ensures the-head-length.ensures the-put-front.ensures the-put-pair.ensures the-put-two.ensures the-put-rules.ensures)
