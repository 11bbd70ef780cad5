-- Refused by what is lent, or as the lines read into lanes of zeros.
use Rattle.std.proofs.Common.{rules, refl, sym, ◌∙◌, arith}
use Rattle.term.proofs.Handing.{refusal_numbered}
use Rattle.table.specs.Rows.{lanes}
use Rattle.names.specs.Names.{lanes_of}
use Rattle.ntread.proofs.Whole.{kept_refused, wiped_refused, wiped_fresh, wiped_read}
use Rattle.ntread.proofs.read_triples.Goals as goal

pub returns-then-keeps : goal.returns-then-keeps
returns-then-keeps c =
    let a = c.args in
    kept_refused a.kind a.a a.file.now (lanes a.subj.now a.pred.now a.obj.now a.ann.now) (lanes_of a.terms.now a.ends.now a.text.now) _ c.in-Err.ensures.judged (refusal_numbered c.in-Err.why)
    (sym c.keeps.ensures ∙ c.if-keeps.true) _ (rw c.at.ensures at c.refused.ensures)

pub returns-else-keeps : goal.returns-else-keeps
returns-else-keeps c =
    let a = c.args in
    wiped_refused a.kind a.a a.file.now (lanes a.subj.now a.pred.now a.obj.now a.ann.now) (lanes_of a.terms.now a.ends.now a.text.now) _ c.in-Err.ensures.judged
    (sym c.keeps.ensures ∙ c.if-keeps.false) (refusal_numbered c.in-Err.why) _ _ (search rules, c.wipe_names.ensures) _ (rw c.at-in-Err.ensures at c.refused-in-Err.ensures)

pub read_lanes-requires : goal.read_lanes-requires
read_lanes-requires c =
    let a = c.args in
    rw c.in-Ok.ensures.known
    (wiped_fresh a.kind a.a a.file.now (lanes a.subj.now a.pred.now a.obj.now a.ann.now) (lanes_of a.terms.now a.ends.now a.text.now) 0 c.in-Ok.ensures.judged refl (omega arith))

pub returns-in-Ok : goal.returns-in-Ok
returns-in-Ok c =
    let a = c.args in
    wiped_read a.kind a.a a.file.now (lanes a.subj.now a.pred.now a.obj.now a.ann.now) (lanes_of a.terms.now a.ends.now a.text.now) 0 c.in-Ok.ensures.judged refl (omega arith)
    _ _ _ _ _ (refl, refl) (rw c.in-Ok.ensures.known at c.read_lanes.ensures)
