-- One of the five, or listed.
use mathlib.Core.Path.{sym, ap}
use borrow.Author.Rules.{rules}
use denote.Enum.Bare.{same_true, same_false}
use Rattle.names.specs.Read.{lanes_read}
use Rattle.ntline.specs.contracts.lines.Sort.{the_type}
use Rattle.ntline.specs.declared.lines.Sort.TheVariants.{Name}
use Rattle.ntline.specs.Kinds.{sort_number}
use Rattle.ntnumber.proofs.Listed.{known-five, known-listed, known-other, name_number}
use Rattle.ntnumber.proofs.number_in_place.Goals as goal
use Rattle.ntnumber.proofs.number_in_place.Goals.{then-eq+in_default, else-eq}

pub returns-in-Some : goal.returns-in-Some
returns-in-Some c =
    known-five c.args.b.now c.args.end c.args.t (lanes_read c.args.l) c.args.l.count
    (ap sort_number {y = Name} (same_true the_type (search rules) _ _ (sym c.if-eq.ensures)))
    c.in-Some.five
    c.in-Some.ensures

pub returns : goal.returns
returns c =
    let l = lanes_read c.args.l in
    elim c.if-eq.branch [
      | then-eq+in_default w ↦ known-listed c.args.b.now c.args.end c.args.t l c.args.l.count _ c.listed_in_place.ensures w.in_default.ensures
      | else-eq w ↦ known-other c.args.b.now c.args.end c.args.t l c.args.l.count _ c.listed_in_place.ensures (λ e. same_false the_type _ _ (sym w.if-eq.ensures) (name_number c.args.t.sort e))
    ]
