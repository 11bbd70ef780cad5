-- The fields, and on a refusal all rows zeroed.
use Rattle.std.proofs.Common.{◌∙◌}
use Rattle.annotation.specs.Numbered.{kind_number}
use Rattle.ruleset.specs.Numbered.{set_number}
use Rattle.table.specs.Rows.{zeroed}
use Rattle.table.specs.Lent.{lanes_in}
use Rattle.term.specs.Refused.{verdict_of}
use Rattle.book.proofs.Whole.{body_refused, body_done}
use Rattle.book.proofs.read_fields_anew.Goals as goal

pub returns-in-Err-clause-read : goal.returns-in-Err-clause-read
returns-in-Err-clause-read c =
    let a = c.args in
    let h = a.head in
    let of_head = c.wipe.ensures.kept.same_kind ∙ c.requires.of_its_kind in
    let f = rw (of_head, c.wipe.ensures.wiped) at c.in-Err.ensures.read in
    body_refused (kind_number h.kind) h.base (set_number h.rules) a.book.now h.next (zeroed (lanes_in a.table.now)) c.requires.fresh _ (verdict_of c.in-Err.refusal) _ f _ _ c.wipe-in-Err.ensures.wiped c.refused.ensures

pub returns-in-Ok-clause-read : goal.returns-in-Ok-clause-read
returns-in-Ok-clause-read c =
    let a = c.args in
    let h = a.head in
    let of_head = c.wipe.ensures.kept.same_kind ∙ c.requires.of_its_kind in
    let f = rw (of_head, c.wipe.ensures.wiped) at c.in-Ok.ensures.read in
    rw (c.number.ensures, c.number-in-Ok.ensures)
    (body_done (kind_number h.kind) h.base (set_number h.rules) a.book.now h.next (zeroed (lanes_in a.table.now)) c.requires.fresh _ _ f)
