-- A backslash, and then the character.
use Rattle.std.proofs.Common.{refl}
use native.Mathlib.Omega.{arith}
use Rattle.nttext.proofs.Matching.{slash_missing, slash_other, slash_first}
use Rattle.nttext.proofs.texts.match_slashed.Goals as goal
use Rattle.nttext.proofs.texts.match_slashed.Goals.{then-at-end-via-then-at-end, then-at-end-via-else-at-end+then-out-at-ne92}

pub returns-then-at-end : goal.returns-then-at-end
returns-then-at-end c = elim c.then-at-end.branch [
  | then-at-end-via-then-at-end w ↦ slash_missing c.args.out.now c.args.at c.args.end c.args.value _ _ refl w.if-at-end.true
  | then-at-end-via-else-at-end+then-out-at-ne92 w ↦
      slash_other c.args.out.now c.args.at c.args.end (omega (arith, c.requires.0, w.if-at-end.false)) c.requires.1 c.args.value _ _ refl w.if-out-at-ne92.true
]

pub returns : goal.returns
returns c = slash_first c.args.out.now c.args.at c.args.end (omega (arith, c.requires.0, c.if-at-end.false)) c.requires.1 c.args.value _ c.if-out-at-ne92.false c.match_char.ensures
