-- The first of the five that it is.
use mathlib.Core.Path.{◌≡◌}
use mathlib.Core.Bool.{true, false}
use Prim.Native.Nat.{ℕ}
use borrow.Author.Tests.{tests}
use Rattle.std.proofs.Common.{rules}
use Rattle.std.proofs.lemmas.Iterator.{first_from_Range}
use Rattle.names.specs.Five.{five_text}
use Rattle.names.specs.Entering.{same_text_lem}
use Rattle.names.proofs.FiveTexts.{five_found}
use Rattle.nttext.specs.Texts.{text_of_term}
use Rattle.ntnumber.proofs.five_in_place.Goals as goal

pub returns : goal.returns
returns c m s =
    let word = text_of_term m in
    five_found word c.find.result
    (first_from_Range _ _ _ _ (λ (n : ℕ). true ≡ same_text_lem (five_text n) word) (λ (n : ℕ). false ≡ same_text_lem (five_text n) word) c.find.ensures.ran
    (λ n q k. search (rules, tests)) (λ n q k. search (rules, tests)))
