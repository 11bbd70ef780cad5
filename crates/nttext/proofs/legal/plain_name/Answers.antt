-- A scheme, its colon and plain bytes.
use borrow.Author.Tests.{eqb-true}
use Rattle.nttext.proofs.PlainTexts.{plain-name}
use Rattle.nttext.proofs.legal.plain_name.Goals as goal

pub returns-then-from-behind : goal.returns-then-from-behind
returns-then-from-behind c =
    λ e. plain-name c.args.text.now c.args.from c.args.to c.requires.1 _ _ (c.scheme_run-behind.ensures c.if-from-behind.true) c.plain_run.ensures (eqb-true _ _ e)
