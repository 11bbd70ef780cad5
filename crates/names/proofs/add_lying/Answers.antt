-- No entry left, or one more.
use Rattle.names.specs.Names.{lanes_of}
use Rattle.names.proofs.Entries.{lying-done, lying-full}
use Rattle.names.proofs.add_lying.Goals as goal

pub returns-then-terms-names : goal.returns-then-terms-names
returns-then-terms-names c =
    let the-args = c.args in
    let the-pre = c.requires in
    let the-if1 = c.if-terms-names in
    lying-full (lanes_of the-args.terms.now the-args.ends.now the-args.text.now) the-args.names the-args.n the-args.size the-pre.0 the-if1.true

pub returns : goal.returns
returns c =
    let the-args = c.args in
    let the-pre = c.requires in
    let the-if1 = c.if-terms-names in
    let the-start-of = c.start_of in
    let l = lanes_of the-args.terms.now the-args.ends.now the-args.text.now in
    let done = lying-done l the-args.names the-args.n the-args.size the-pre.0 the-if1.false the-pre.1 in
    rw (← the-start-of.ensures) at done
