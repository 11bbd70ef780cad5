-- A first character of a label, and more of them.
use Rattle.std.proofs.Common.{ap, sym, ◌∙◌}
use native.Mathlib.Omega.{arith}
use Rattle.ntline.specs.Classes.{is_label_start_lem}
use borrow.Author.Tests.{eqb-true}
use Rattle.nttext.proofs.PlainTexts.{plain_label}
use Rattle.nttext.proofs.legal.plain_label.Goals as goal

pub returns : goal.returns
returns c =
    let starts = ap is_label_start_lem (sym c.from.ensures) ∙ sym c.if-not-is_label_start.ensures in
    λ e. plain_label c.args.text.now c.args.from c.args.to (omega (arith, c.requires.0, c.if-from-to.false)) c.requires.1 _ starts c.label_run.ensures (eqb-true _ _ e)
