-- A run of letters that goes no further; or a character at a time.
use Rattle.std.proofs.Common.{refl}
use Rattle.ntline.proofs.Tokens.{tag_token}
use Rattle.ntline.proofs.lexing.tag_token.Goals as goal

pub returns : goal.returns
returns c =
    (tag_token c.args.b.now c.args.at c.args.end c.requires.1 c.requires.0 _ c.requires.2 c.letters_run-to.ensures c.if-to-from.false (c.if-not-stops.ensures refl), refl)
