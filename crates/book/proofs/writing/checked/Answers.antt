-- Kind, base year, rule set, table, room.
use Rattle.std.proofs.Common.{refl, arith, lit<}
use Rattle.std.proofs.lemmas.Result.{err_from_is_err_and}
use Rattle.term.proofs.Handing.{refusal_numbered}
use Rattle.annotation.proofs.Known.{known_passes as kind_passes, unknown_is4}
use Rattle.ruleset.proofs.Known.{known_passes as set_passes, unknown_is36}
use Rattle.table.specs.Lent.{lanes_seen}
use Rattle.book.proofs.Writes.{write_by_kind, write_by_base, write_by_rules, write_by_table, write_by_room, write_passes, written-sound}
use Rattle.book.proofs.writing.checked.Goals as goal

pub returns-in_err-kind : goal.returns-in_err-kind
returns-in_err-kind c =
    let p = err_from_is_err_and c.from_residual.result c.from_residual.ensures.1 in
    let a = c.args in
    let e = c.in_err-kind.ensures in
    rw (p.1, p.2, e.0) (write_by_kind a.kind a.base a.rules (lanes_seen a.rows.now) a.rows.now.count a.room 4 (unknown_is4 _ e.1) (lit< tt) _ refl)

pub returns-in_err-refuse : goal.returns-in_err-refuse
returns-in_err-refuse c =
    let p = err_from_is_err_and c.from_residual-in_err-refuse.result c.from_residual-in_err-refuse.ensures.1 in
    let a = c.args in
    let k = c.in_ok-kind in
    let said = c.in_err-refuse.ensures in
    rw (p.1, p.2) (write_by_base a.kind a.base a.rules (lanes_seen a.rows.now) a.rows.now.count a.room 0 (kind_passes k.kind _ k.ensures) refl _ (rw k.ensures at c.is_base.ensures) said.0 _ said.1)

pub returns-in_err-rules : goal.returns-in_err-rules
returns-in_err-rules c =
    let p = err_from_is_err_and c.from_residual-in_err-rules.result c.from_residual-in_err-rules.ensures.1 in
    let a = c.args in
    let k = c.in_ok-kind in
    let e = c.in_err-rules.ensures in
    rw (p.1, p.2, e.0)
    (write_by_rules a.kind a.base a.rules (lanes_seen a.rows.now) a.rows.now.count a.room 0 (kind_passes k.kind _ k.ensures) refl _ (rw k.ensures at c.is_base.ensures) c.in_ok-refuse.ensures 36 (unknown_is36 _ e.1) (lit< tt) _ refl)

pub returns-in_err-check : goal.returns-in_err-check
returns-in_err-check c =
    let p = err_from_is_err_and c.from_residual-in_err-check.result c.from_residual-in_err-check.ensures.1 in
    let a = c.args in
    let k = c.in_ok-kind in
    let s = c.in_ok-rules in
    rw (p.1, p.2)
    (write_by_table a.kind a.base a.rules (lanes_seen a.rows.now) a.rows.now.count a.room 0 (kind_passes k.kind _ k.ensures) refl _ (rw k.ensures at c.is_base.ensures) c.in_ok-refuse.ensures 0 (set_passes s.rules _ s.ensures) refl
    _ (rw k.ensures at c.in_err-check.ensures) (refusal_numbered c.in_err-check.field-0.0.why) _ refl)

pub book_length-requires : goal.book_length-requires
book_length-requires c =
    let a = c.args in
    let k = c.in_ok-kind in
    let s = c.in_ok-rules in
    let t = written-sound a.kind a.base a.rules (lanes_seen a.rows.now) a.rows.now.count a.room 0 (kind_passes k.kind _ k.ensures) refl _ (rw k.ensures at c.is_base.ensures) c.in_ok-refuse.ensures 0 (set_passes s.rules _ s.ensures) refl
    _ (rw k.ensures at c.in_ok-check.ensures) refl in
    omega (arith, t.within, t.long)

pub returns-in_err-refuse-2 : goal.returns-in_err-refuse-2
returns-in_err-refuse-2 c =
    let p = err_from_is_err_and c.from_residual-in_err-refuse-2.result c.from_residual-in_err-refuse-2.ensures.1 in
    let a = c.args in
    let k = c.in_ok-kind in
    let s = c.in_ok-rules in
    let said = c.in_err-refuse-2.ensures in
    rw (p.1, p.2)
    (write_by_room a.kind a.base a.rules (lanes_seen a.rows.now) a.rows.now.count a.room 0 (kind_passes k.kind _ k.ensures) refl _ (rw k.ensures at c.is_base.ensures) c.in_ok-refuse.ensures 0 (set_passes s.rules _ s.ensures) refl
    _ (rw k.ensures at c.in_ok-check.ensures) refl _ (rw s.ensures at c.book_length.ensures) said.0 _ said.1)

pub returns : goal.returns
returns c =
    let a = c.args in
    let k = c.in_ok-kind in
    let s = c.in_ok-rules in
    record {
      all = write_passes a.kind a.base a.rules (lanes_seen a.rows.now) a.rows.now.count a.room 0 (kind_passes k.kind _ k.ensures) refl _ (rw k.ensures at c.is_base.ensures) c.in_ok-refuse.ensures 0 (set_passes s.rules _ s.ensures) refl
          _ (rw k.ensures at c.in_ok-check.ensures) refl _ (rw s.ensures at c.book_length.ensures) c.in_ok-refuse-2.ensures;
      kind_is = k.ensures;
      rules_is = s.ensures;
    }
