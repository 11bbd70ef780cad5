-- A line that says anything is one of characters, and so is what a term leaves of it. Assumes nothing.
use mathlib.Core.Path.{◌≡◌, subst}
use mathlib.Core.List.{List}
use Prim.Native.Nat.{ℕ, ◌≤◌}
use Rattle.utf8.specs.Texts.{AllCharacters}
use Rattle.ntline.specs.Grammar.{Said}
use Rattle.ntline.specs.Lines.{source_of, line_of, heard, said_by}
use Rattle.ntline.proofs.Sound.{heard-says}
use Rattle.ntline.proofs.Encoded.{says_all}
use Rattle.nttext.proofs.Apart.{Apart, apart}
use Rattle.nttext.proofs.Places.{all_back}

pub heard-characters : (cs : List ℕ) (said : Said) → said_by (line_of cs) ≡ heard said → AllCharacters cs
heard-characters cs said e = says_all (heard-says cs said e)

pub tail-characters : (cs : List ℕ) → (source_of cs).sort ≤ 2 → AllCharacters cs → AllCharacters (source_of cs).tail
tail-characters cs small all =
    let a : Apart cs = apart cs small in
    let from : AllCharacters (source_of cs).from = all_back a.space (source_of cs).from (subst AllCharacters a.line-is all) in
    let to : AllCharacters (source_of cs).to = all_back a.front (source_of cs).to (subst AllCharacters a.from_is from) in
    all_back a.mark (source_of cs).tail (subst AllCharacters a.to_is to)
