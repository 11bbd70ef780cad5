-- A kind's number is one of the document's.
use Rattle.std.proofs.Common.{sym, ap, ◌∙◌}
use Rattle.annotation.specs.Kinds.{is_kind}
use Rattle.annotation.proofs.Known.{kind-known}
use Rattle.annotation.proofs.Kind.or_strict.Goals as goal

pub returns-in-Ok : goal.returns-in-Ok
returns-in-Ok c = rw (sym (ap is_kind c.in-Ok.ensures) ∙ kind-known c.in-Ok.kind) c.in-Ok.ensures
