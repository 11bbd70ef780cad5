-- A scheme, a run of plain bytes and the end; or a character at a time.
use Rattle.std.proofs.Common.{refl}
use Rattle.ntline.proofs.Tokens.{iri-token, iri-reached}
use Rattle.ntline.proofs.lexing.iri_token.Goals as goal

pub plain_run-to-requires : goal.plain_run-to-requires
plain_run-to-requires c =
    let the-scheme-run = c.scheme_run-behind in
    let the-if1 = c.if-behind-from in
    let the-pre = c.requires in
    ((the-scheme-run.ensures the-if1.false).within, the-pre.1)

pub returns-then-is_byte : goal.returns-then-is_byte
returns-then-is_byte c =
    let the-args = c.args in
    let the-pre = c.requires in
    let the-scheme-run = c.scheme_run-behind in
    let the-if1 = c.if-behind-from in
    let the-plain-run = c.plain_run-to in
    let the-is-byte = c.is_byte in
    let the-if2 = c.if-is_byte in (
      iri-token the-args.b.now the-args.at the-args.end the-pre.1 the-pre.0 _ _ the-pre.2 (the-scheme-run.ensures the-if1.false) the-plain-run.ensures
          (the-is-byte.ensures the-if2.true).0 (the-is-byte.ensures the-if2.true).1,
      refl,
    )

pub longest_from-requires : goal.longest_from-requires
longest_from-requires c =
    let the-args = c.args in
    let the-pre = c.requires in
    let the-scheme-run = c.scheme_run-behind in
    let the-if1 = c.if-behind-from in
    let the-plain-run = c.plain_run-to in
    (the-pre.1, iri-reached the-args.b.now the-args.at the-args.end the-pre.1 the-pre.0 _ _ the-pre.2 (the-scheme-run.ensures the-if1.false) the-plain-run.ensures)
