-- What `find` says of the rows.
use Rattle.std.proofs.Common.{rules}
use Rattle.std.proofs.lemmas.Iterator.{first_from_Range}
use Rattle.rounds.specs.Due.{StillAt}
use Rattle.rounds.proofs.Marking.{next-found}
use Rattle.rounds.proofs.next_due.Goals as goal

pub returns : goal.returns
returns c =
    let t = c.args.rows.now in
    let due = StillAt t.subj.now t.pred.now t.obj.now c.args.due.now in
    next-found due _ _ _ (first_from_Range _ _ _ _ (λ _. Unit {0}) due c.find.ensures.ran (λ x q k. tt) (λ x q k. search rules))
