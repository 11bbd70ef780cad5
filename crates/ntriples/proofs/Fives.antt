-- The five have texts. Assumes nothing.
use mathlib.Core.Path.{◌≡◌, sym}
use mathlib.Core.Bool.{true}
use mathlib.Core.List.{List}
use Prim.Native.Nat.{ℕ, ◌<◌}
use native.Mathlib.Omega.{arith}
use Rattle.term.specs.Term.{sort_of}
use Rattle.names.specs.Names.{Entry}
use Rattle.ntwrite.proofs.Pieces.{text-five}
use Rattle.nttext.proofs.FiveNames.{five_legal}
use Rattle.ntriples.specs.Writing.{has_text}

pub five_has_text : (es : List Entry) (n : ℕ) → n < 5 → true ≡ has_text es n
five_has_text es n h =
    let s : sort_of n ≡ 0 = omega arith in
    rw (s, text-five es n h) (sym (five_legal n))
