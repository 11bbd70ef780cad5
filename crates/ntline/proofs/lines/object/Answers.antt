-- An object, and the dot behind it.
use Rattle.ntline.proofs.Lining.{object-missing, object-dotted, object-undotted}
use Rattle.ntline.proofs.lines.object.Goals as goal

pub returns-in-Ok : goal.returns-in-Ok
returns-in-Ok c = λ s p x y. object-dotted c.args.b.now c.args.end c.args.s c.args.p s p c.in-Ok.o x y c.in-Ok.ensures c.if-dotted.ensures

pub returns-in_default : goal.returns-in_default
returns-in_default c = λ s p x y. object-undotted c.args.b.now c.args.end c.args.s c.args.p s p c.in-Ok.o y c.in-Ok.ensures c.if-dotted.ensures

pub returns-in_default-2 : goal.returns-in_default-2
returns-in_default-2 c = λ s p x y. object-missing c.args.b.now c.args.end c.args.s c.args.p s p y c.in_default.ensures.no_sort
