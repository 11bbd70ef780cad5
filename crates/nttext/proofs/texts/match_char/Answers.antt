-- By the character that stands there.
use Rattle.std.proofs.Common.{refl}
use Rattle.nttext.proofs.Matching.{char-missing, char-there, char-other}
use Rattle.nttext.proofs.texts.match_char.Goals as goal

pub returns-then-at-end : goal.returns-then-at-end
returns-then-at-end c = char-missing c.args.out.now c.args.at c.args.end c.args.value _ _ refl c.if-at-end.true

pub returns-then-c-value : goal.returns-then-c-value
returns-then-c-value c = char-there c.args.out.now c.args.at c.args.end c.args.value _ _ c.requires.2 c.see-c.ensures c.if-c-value.true

pub returns-else-c-value : goal.returns-else-c-value
returns-else-c-value c = char-other c.args.out.now c.args.at c.args.end c.args.value _ _ c.requires.2 c.see-c.ensures c.if-c-value.false
