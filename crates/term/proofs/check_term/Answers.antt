-- The one check of `term_checks` holds or does not.
use Rattle.std.proofs.Common.{arith}
use borrow.Author.Tests.{lt-ltb, le-ltb}
use Rattle.term.specs.Refusal.{first}
use Rattle.term.proofs.check_term.Goals as goal

pub returns-then-term-ge-UNBOUND : goal.returns-then-term-ge-UNBOUND
unfolding first
returns-then-term-ge-UNBOUND c = rw (le-ltb c.args.term 65535 (omega (arith, c.if-term-ge-UNBOUND.true)))

pub returns : goal.returns
unfolding first
returns c = rw (lt-ltb c.args.term 65535 (omega (arith, c.if-term-ge-UNBOUND.false)))
