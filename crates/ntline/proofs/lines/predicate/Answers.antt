-- A predicate is a name.
use Rattle.std.proofs.Common.{rules, sym}
use denote.Enum.Bare.{same_true, same_false}
use Rattle.ntline.specs.contracts.lines.Sort.{the_type}
use Rattle.ntline.proofs.Lining.{predicate-name, predicate-none, predicate-other}
use Rattle.ntline.proofs.lines.predicate.Goals as goal

pub returns-in-Ok : goal.returns-in-Ok
returns-in-Ok c =
    λ s x. predicate-name c.args.b.now c.args.end c.args.s s c.in-Ok.p c.object.result x c.in-Ok.ensures (same_true the_type (search rules) _ _ (sym c.if-eq.ensures)) c.object.ensures

pub returns-in_default : goal.returns-in_default
returns-in_default c =
    λ s x. predicate-other c.args.b.now c.args.end c.args.s s c.in-Ok.p x c.in-Ok.ensures (same_false the_type _ _ (sym c.if-eq.ensures))

pub returns-in_default-2 : goal.returns-in_default-2
returns-in_default-2 c = λ s x. predicate-none c.args.b.now c.args.end c.args.s s x (rw c.in_default.is at c.term.ensures).no_sort
