-- Plain bytes, or a text behind which the state may end a label.
use mathlib.Core.Path.{sym, ap, ◌∙◌}
use Prim.Native.Nat.{ℕ}
use lib.Dec.{eqb}
use lib.Seq.{slice}
use Rattle.ntline.specs.Lexing.{kind_of}
use Rattle.nttext.proofs.LegalStates.{legal-blank, is_label}
use Rattle.nttext.proofs.legal.legal_blank.Goals as goal

pub returns : goal.returns
returns c =
    c.eq.ensures ∙ is_label c.kind_of.result ∙ ap (λ (k : ℕ). eqb k 5) (c.kind_of.ensures ∙ ap kind_of c.state_behind.ensures)
    ∙ sym (legal-blank (slice c.args.from c.args.to c.args.text.now))
