-- A run of a label's bytes that goes no further; or a character at a time.
use Rattle.std.proofs.Common.{refl, ap, sym, ◌∙◌}
use native.Mathlib.Omega.{arith}
use Rattle.ntline.specs.Classes.{is_label_start_lem}
use Rattle.ntline.proofs.Tokens.{label-token}
use Rattle.ntline.proofs.lexing.label_token.Goals as goal

pub label_run-to-requires : goal.label_run-to-requires
label_run-to-requires c = let colon = c.if-not-is_byte.ensures refl in (omega arith, c.requires.1)

pub returns : goal.returns
returns c =
    let colon = c.if-not-is_byte.ensures refl in (
      label-token c.args.b.now c.args.at c.args.end c.requires.1 c.requires.0 _ c.requires.2 colon.0 colon.1 c.label_run-to.ensures c.if-to-from.false
          (ap is_label_start_lem (sym c.from.ensures) ∙ sym c.if-not-is_label_start.ensures) (c.if-not-stops.ensures refl),
      refl,
    )
