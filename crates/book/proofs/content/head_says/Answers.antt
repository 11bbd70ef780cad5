-- Kind, base year, rule set.
use Rattle.std.proofs.Common.{refl, lit<}
use Rattle.std.proofs.lemmas.Result.{err_from_is_err_and}
use Rattle.annotation.proofs.Known.{known_passes as kind_passes, unknown_is4}
use Rattle.ruleset.proofs.Known.{known_passes as set_passes, unknown_is36}
use Rattle.book.proofs.Heads.{head_by_kind, head_by_base, head_by_rules, head_said}
use Rattle.book.proofs.content.head_says.Goals as goal

pub returns-in_err-kind : goal.returns-in_err-kind
returns-in_err-kind c =
    let p = err_from_is_err_and c.from_residual.result c.from_residual.ensures.1 in
    let e = c.in_err-kind.ensures in
    rw (p.1, p.2, e.0) (head_by_kind c.args.book.now 4 (unknown_is4 _ e.1) (lit< tt) _ refl)

pub returns-in_err-refuse : goal.returns-in_err-refuse
returns-in_err-refuse c =
    let p = err_from_is_err_and c.from_residual-in_err-refuse.result c.from_residual-in_err-refuse.ensures.1 in
    let said = c.in_err-refuse.ensures in
    let k = c.in_ok-kind in
    rw (p.1, p.2) (head_by_base c.args.book.now 0 (kind_passes k.kind _ k.ensures) refl _ c.two-base.ensures _ (rw k.ensures at c.is_base.ensures) said.0 _ said.1)

pub returns-in_err-rules : goal.returns-in_err-rules
returns-in_err-rules c =
    let p = err_from_is_err_and c.from_residual-in_err-rules.result c.from_residual-in_err-rules.ensures.1 in
    let e = c.in_err-rules.ensures in
    let k = c.in_ok-kind in
    rw (p.1, p.2, e.0)
    (head_by_rules c.args.book.now 0 (kind_passes k.kind _ k.ensures) refl _ c.two-base.ensures _ (rw k.ensures at c.is_base.ensures) c.in_ok-refuse.ensures _ c.head_rules.ensures 36 (unknown_is36 _ e.1) (lit< tt) _ refl)

pub returns : goal.returns
returns c =
    let k = c.in_ok-kind in
    let s = c.in_ok-rules in
    head_said c.args.book.now 0 (kind_passes k.kind _ k.ensures) refl _ c.two-base.ensures _ (rw k.ensures at c.is_base.ensures) c.in_ok-refuse.ensures _ c.head_rules.ensures 0 (set_passes s.rules _ s.ensures) refl
    k.kind k.ensures s.rules s.ensures _ c.requires.next_is
