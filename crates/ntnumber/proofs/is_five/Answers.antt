-- All of it is compared.
use mathlib.Core.Path.{ap, ◌∙◌}
use mathlib.Core.List.{List}
use Prim.Native.Nat.{ℕ}
use Rattle.names.specs.Entering.{same_text_lem}
use Rattle.nttext.specs.Texts.{text_of_term}
use Rattle.ntnumber.proofs.Listed.{five_compared}
use Rattle.ntnumber.proofs.is_five.Goals as goal

pub returns : goal.returns
returns c m s = five_compared c.text_of-five.result.now _ _ (c.is_text_of.ensures m s) ∙ ap (λ (t : List ℕ). same_text_lem t (text_of_term m)) c.text_of-five.ensures
