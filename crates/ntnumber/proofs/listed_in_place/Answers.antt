use mathlib.Core.Path.{sym, ◌∙◌}
use native.Mathlib.Omega.{arith}
use Rattle.names.specs.Read.{lanes_read}
use Rattle.names.proofs.Entries.{end_within}
use Rattle.ntnumber.proofs.Listed.{left_other, left_not, left_here, left-none}
use Rattle.ntnumber.proofs.listed_in_place.Goals as goal
use Rattle.ntnumber.proofs.listed_in_place.Goals.{else-sort_of-sort-via-then-sort_of-sort+else-is_text_of, else-sort_of-sort-via-else-sort_of-sort}

pub is_text_of-requires : goal.is_text_of-requires
is_text_of-requires c = (
  c.requires.within,
  omega (arith, c.start_of-from.ensures, c.from-to.ensures, c.requires.listing.rise c.loop-i.i c.loop-i-test.true),
  rw c.from-to.ensures (end_within (lanes_read c.args.l) c.args.l.count c.requires.listing c.loop-i.i c.loop-i-test.true),
  c.requires.stands,
)

pub returns-then-is_text_of : goal.returns-then-is_text_of
returns-then-is_text_of c =
    left_here c.args.b.now c.args.end c.args.t (lanes_read c.args.l) c.args.l.count c.requires.listing c.loop-i.i c.loop-i.invariant c.loop-i-test.true
    (sym c.sort_of.ensures ∙ c.if-sort_of-sort.true ∙ c.sort_number-sort.ensures) _ c.start_of-from.ensures _ (rw c.from-to.ensures at c.is_text_of.ensures) c.if-is_text_of.true

pub loop-i-preserved : goal.loop-i-preserved
loop-i-preserved c =
    let l = lanes_read c.args.l in
    elim c.else-sort_of-sort.branch [
      | else-sort_of-sort-via-then-sort_of-sort+else-is_text_of w ↦ left_not c.args.b.now c.args.end c.args.t l c.args.l.count c.requires.listing c.loop-i.i c.loop-i.invariant c.loop-i-test.true
          (sym c.sort_of.ensures ∙ w.if-sort_of-sort.true ∙ c.sort_number-sort.ensures)
          _
          c.start_of-from.ensures
          _
          (rw c.from-to.ensures at w.is_text_of.ensures)
          w.if-is_text_of.false
      | else-sort_of-sort-via-else-sort_of-sort w ↦ left_other c.args.b.now c.args.end c.args.t l c.args.l.count c.requires.listing c.loop-i.i c.loop-i.invariant c.loop-i-test.true
          (λ e. w.if-sort_of-sort.false (c.sort_of.ensures ∙ e ∙ sym c.sort_number-sort.ensures))
    ]

pub returns : goal.returns
returns c = left-none c.args.b.now c.args.end c.args.t (lanes_read c.args.l) c.args.l.count c.requires.listing c.loop-i.i c.loop-i.invariant c.loop-i-test.false
