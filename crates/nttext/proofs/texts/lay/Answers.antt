-- A character's bytes, where they fit.
use mathlib.Core.Path.{◌≡◌}
use mathlib.Core.Bool.{true, false}
use mathlib.Core.Logic.{◌⊎◌, inl, inr}
use native.Mathlib.Omega.{arith}
use lib.ListN.{set}
use Rattle.utf8.specs.Characters.{is_character_lem}
use Rattle.utf8.proofs.Agree.{size_few}
use Rattle.ntline.proofs.Digits.{character_small}
use Rattle.nttext.proofs.Filling.{marks-few, lays-none, lays-char}
use Rattle.nttext.proofs.texts.lay.Goals as goal
use Rattle.nttext.proofs.texts.lay.Goals.{then-c, else-c}

pub returns-in_default : goal.returns-in_default
returns-in_default c = rw c.in_default.is (lays-none c.args.out.now c.args.at c.requires.0)

pub overflow_add-size : goal.overflow_add-size
overflow_add-size c = omega (arith, c.from-marks.ensures, marks-few c.in-Some.c.slash, c.size_of.ensures, (size_few c.in-Some.c.value).1)

pub put_char-requires : goal.put_char-requires
put_char-requires c =
    let long = c.if-c.auto.out in
    let good : is_character_lem c.in-Some.c.value ≡ true = rw c.in-Some.is at c.requires.1 in
    (character_small c.in-Some.c.value good, omega (arith, c.if-out-at.false, c.size_of.ensures, c.requires.0))

pub returns : goal.returns
returns c =
    let mid : ((c.in-Some.c.slash ≡ true) × (c.if-c.out ≡ set c.args.out.now c.args.at 0x5C)) ⊎ ((c.in-Some.c.slash ≡ false) × (c.if-c.out ≡ c.args.out.now))
    = elim c.if-c.branch [ then-c w ↦ inl (w.if-c.true, w.out-is) | else-c w ↦ inr (w.if-c.false, w.out-is) ] in
    rw c.in-Some.is
    (lays-char c.args.out.now c.args.at c.in-Some.c _ _ c.from-marks.ensures c.size_of.ensures c.requires.0 c.if-out-at.false _ _ mid c.put_char.ensures)
