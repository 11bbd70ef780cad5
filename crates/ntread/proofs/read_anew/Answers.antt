-- A refusal leaves zeros; a done reading leaves none but zeros behind the last text.
use Rattle.std.proofs.Common.{arith}
use Rattle.term.proofs.Handing.{refusal_numbered}
use Rattle.annotation.specs.Numbered.{kind_number}
use Rattle.table.specs.Rows.{zeroed}
use Rattle.table.specs.Lent.{lanes_in}
use Rattle.ntnumber.specs.Lent.{list_in}
use Rattle.ntnumber.proofs.HashKept.{hashed_none}
use Rattle.ntread.specs.Inner.{zeroed_names}
use Rattle.ntread.proofs.Whole.{new_refused, new_done}
use Rattle.ntread.proofs.read_anew.Goals as goal

pub read_lines-requires-clause-hashed : goal.read_lines-requires-clause-hashed
read_lines-requires-clause-hashed c = rw c.requires.no_name (hashed_none _ _ _ c.requires.hashed)

pub returns-in-Ok-clause-read : goal.returns-in-Ok-clause-read
returns-in-Ok-clause-read c =
    let a = c.args in
    let t = a.table.now in
    let f = rw (c.wipe.ensures.kept.same_kind, c.wipe.ensures.wiped, c.wipe_names.ensures) at c.in-Ok.ensures.read in
    new_done (kind_number t.kind) a.a a.file.now (zeroed (lanes_in t)) _ (zeroed_names (list_in a.list.now)) _ _ f (omega arith) _ c.end-end.ensures _ c.zero_u8.ensures

pub returns-in-Err-clause-read : goal.returns-in-Err-clause-read
returns-in-Err-clause-read c =
    let a = c.args in
    let t = a.table.now in
    let f = rw (c.wipe.ensures.kept.same_kind, c.wipe.ensures.wiped, c.wipe_names.ensures) at c.in-Err.ensures.read in
    rw c.refused.ensures
    (new_refused (kind_number t.kind) a.a a.file.now (zeroed (lanes_in t)) _ (zeroed_names (list_in a.list.now)) _ _ f (refusal_numbered c.in-Err.e.why) _ _ (c.wipe-in-Err.ensures.wiped, c.wipe_names-in-Err.ensures))
