use Rattle.std.proofs.Common.{rules, ℕ, subst, sym, arith}
use Rattle.term.proofs.Handing.{refusal_numbered}
use Rattle.annotation.specs.Numbered.{kind_number}
use Rattle.table.specs.Lent.{lanes_in}
use Rattle.ntnumber.specs.Lent.{list_in}
use Rattle.ntread.proofs.Reached.{Reached, reached-start, reached-skip, reached-line, reached-stop, reached-end}
use Rattle.ntread.proofs.lines.read_lines.Goals as goal

pub loop-at-init : goal.loop-at-init
loop-at-init c =
    let a = c.args in
    let t = a.table.now in
    let n = list_in a.list.now in
    record {
      kept = search rules;
      list_kept = search rules;
      reached = subst (λ (rows : ℕ). Reached (kind_number t.kind) a.a a.b.now (lanes_in t) (lanes_in t) n n 0 rows a.list.now.count) (sym c.requires.no_row)
          (subst (λ (names : ℕ). Reached (kind_number t.kind) a.a a.b.now (lanes_in t) (lanes_in t) n n 0 0 names) (sym c.requires.no_name)
          (reached-start (kind_number t.kind) a.a a.b.now (lanes_in t) n c.requires.fresh));
      hashed = c.requires.hashed;
    }

pub returns-in-Err-clause-read : goal.returns-in-Err-clause-read
returns-in-Err-clause-read c =
    let a = c.args in
    let t = a.table.now in
    let it = c.loop-at in
    rw c.at.ensures
    (reached-stop (kind_number t.kind) a.a a.b.now (lanes_in t) (list_in a.list.now) c.requires.fresh (lanes_in it.table) (list_in it.list) it.at it.table.count it.list.count it.invariant.reached
    _ c.line_end-end.ensures c.if-at-end.true _ _ _ (rw it.invariant.kept.same_kind at c.in-Err.ensures.read) (refusal_numbered c.in-Err.e))

pub loop-at-preserved-then-at-end : goal.loop-at-preserved-then-at-end
loop-at-preserved-then-at-end c =
    let a = c.args in
    let t = a.table.now in
    let it = c.loop-at in
    record {
      kept = search rules;
      list_kept = search rules;
      reached = reached-line (kind_number t.kind) a.a a.b.now (lanes_in t) (list_in a.list.now) c.requires.fresh (lanes_in it.table) (list_in it.list) it.at it.table.count it.list.count it.invariant.reached
          _ c.line_end-end.ensures c.if-at-end.true _ _ _ (rw it.invariant.kept.same_kind at c.in-Ok.ensures.read) (omega arith);
      hashed = c.in-Ok.ensures.hashed;
    }

pub loop-at-preserved : goal.loop-at-preserved
loop-at-preserved c =
    let a = c.args in
    let t = a.table.now in
    let it = c.loop-at in
    record {
      kept = it.invariant.kept;
      list_kept = it.invariant.list_kept;
      reached = reached-skip (kind_number t.kind) a.a a.b.now (lanes_in t) (list_in a.list.now) c.requires.fresh (lanes_in it.table) (list_in it.list) it.at it.table.count it.list.count it.invariant.reached
          _ c.line_end-end.ensures c.loop-at-test.true c.if-at-end.false;
      hashed = it.invariant.hashed;
    }

pub returns-clause-read : goal.returns-clause-read
returns-clause-read c =
    let a = c.args in
    let t = a.table.now in
    let it = c.loop-at in
    reached-end (kind_number t.kind) a.a a.b.now (lanes_in t) (list_in a.list.now) c.requires.fresh (lanes_in it.table) (list_in it.list) it.at it.table.count it.list.count it.invariant.reached c.loop-at-test.false
