-- By what the character gives: nothing yet, what its escape stands for, nothing, or itself.
use Rattle.std.proofs.Common.{sym}
use Rattle.nttext.proofs.Units.{advance_part, advance_dropped, advance_raw, advance_escaped}
use Rattle.nttext.proofs.texts.advance.Goals as goal

pub returns-then-out-eq-PART : goal.returns-then-out-eq-PART
returns-then-out-eq-PART c =
    rw c.behind.ensures (advance_part c.args.s.b.now c.args.s.to c.args.s.quoted c.args.k _ _ c.see-c.ensures _ c.feed-f.ensures c.if-out-eq-PART.true)

pub returns-then-k-ne0 : goal.returns-then-k-ne0
returns-then-k-ne0 c =
    advance_escaped c.args.s.b.now c.args.s.to c.args.s.quoted c.args.k _ _ c.see-c.ensures _ c.feed-f.ensures c.if-out-eq-PART.false c.if-k-ne0.true
    c.canonical.result c.canonical.ensures _ c.behind-then-k-ne0.ensures

pub returns-then-is_dropped : goal.returns-then-is_dropped
returns-then-is_dropped c =
    advance_dropped c.args.s.b.now c.args.s.to c.args.s.quoted c.args.k _ _ c.see-c.ensures _ c.feed-f.ensures c.if-out-eq-PART.false c.if-k-ne0.false
    (sym c.if-is_dropped.ensures) _ c.behind-then-is_dropped.ensures

pub returns : goal.returns
returns c =
    advance_raw c.args.s.b.now c.args.s.to c.args.s.quoted c.args.k _ _ c.see-c.ensures _ c.feed-f.ensures c.if-out-eq-PART.false c.if-k-ne0.false
    (sym c.if-is_dropped.ensures) _ c.behind-2.ensures
