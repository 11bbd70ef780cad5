-- A subject is a name or a blank.
use Rattle.std.proofs.Common.{rules, sym}
use denote.Enum.Bare.{differs_true, differs_false}
use Rattle.ntline.specs.contracts.lines.Sort.{the_type}
use Rattle.ntline.proofs.Lining.{subject-there, subject-none, subject-literal}
use Rattle.ntline.proofs.lines.subject.Goals as goal

pub returns-in-Ok : goal.returns-in-Ok
returns-in-Ok c = subject-there c.args.b.now c.args.at c.args.end c.in-Ok.s c.in-Ok.ensures c.predicate.result (differs_true the_type _ _ (sym c.if-ne.ensures)) c.predicate.ensures

pub returns-in_default : goal.returns-in_default
returns-in_default c = subject-literal c.args.b.now c.args.at c.args.end c.in-Ok.s c.in-Ok.ensures (differs_false the_type (search rules) _ _ (sym c.if-ne.ensures))

pub returns-in_default-2 : goal.returns-in_default-2
returns-in_default-2 c = subject-none c.args.b.now c.args.at c.args.end (rw c.in_default.is at c.term.ensures).no_sort
