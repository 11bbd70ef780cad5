-- By its first byte; any other a character at a time.
use Rattle.std.proofs.Common.{refl}
use native.Mathlib.Omega.{arith}
use Rattle.ntline.proofs.Tokens.{dot-token, hats_token}
use Rattle.ntline.proofs.lexing.token.Goals as goal

pub returns-in-46 : goal.returns-in-46
returns-in-46 c = (dot-token c.args.b.now c.args.at c.args.end c.requires.1 (omega arith) c.in-46.is, refl)

pub returns-in-94 : goal.returns-in-94
returns-in-94 c =
    let hat = c.if-is_byte.ensures refl in
    (hats_token c.args.b.now c.args.at c.args.end c.requires.1 (omega arith) c.in-94.is hat.0 hat.1, refl)
