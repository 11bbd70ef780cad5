-- A run of plain bytes and the end; or a character at a time.
use Rattle.std.proofs.Common.{refl}
use Rattle.ntline.proofs.Tokens.{string-token, string-reached}
use Rattle.ntline.proofs.lexing.string_token.Goals as goal

pub returns-then-is_byte : goal.returns-then-is_byte
returns-then-is_byte c =
    let the-args = c.args in
    let the-pre = c.requires in
    let the-plain-run = c.plain_run-to in
    let the-is-byte = c.is_byte in
    let the-if1 = c.if-is_byte in (
      string-token the-args.b.now the-args.at the-args.end the-pre.1 the-pre.0 _ the-pre.2 the-plain-run.ensures
          (the-is-byte.ensures the-if1.true).0 (the-is-byte.ensures the-if1.true).1,
      refl,
    )

pub longest_from-requires : goal.longest_from-requires
longest_from-requires c =
    let the-args = c.args in
    let the-pre = c.requires in
    let the-plain-run = c.plain_run-to in
    (the-pre.1, string-reached the-args.b.now the-args.at the-args.end the-pre.1 the-pre.0 _ the-pre.2 the-plain-run.ensures)
