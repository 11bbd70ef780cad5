-- Plain bytes, or a text behind which the state lets '>' end it.
use mathlib.Core.Path.{sym, ap, ◌∙◌}
use Prim.Native.Nat.{ℕ}
use lib.Dec.{eqb}
use lib.Seq.{slice}
use Rattle.ntline.specs.declared.lexing.State.{State}
use Rattle.ntline.specs.Lexing.{step, kind_of}
use Rattle.nttext.proofs.LegalStates.{legal-name, is_iri}
use Rattle.nttext.proofs.legal.legal_name.Goals as goal

pub returns : goal.returns
returns c =
    c.eq.ensures ∙ is_iri c.kind_of.result
    ∙ ap (λ (k : ℕ). eqb k 7) (c.kind_of.ensures ∙ ap kind_of (c.stepped.ensures ∙ ap (λ (s : State). step s 0x3E) c.state_behind-inside.ensures))
    ∙ sym (legal-name (slice c.args.from c.args.to c.args.text.now))
