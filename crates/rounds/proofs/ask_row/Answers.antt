-- What the row gives is drawn, and what rose put into the sets.
use Rattle.plans.proofs.Obeying.{set-driven}
use Rattle.rounds.proofs.Rounding.{row-asked}
use Rattle.rounds.proofs.ask_row.Goals as goal

pub returns-clause-asked : goal.returns-clause-asked
returns-clause-asked c =
    let r = c.rows.ensures in
    let row = rw (r.same_subj, r.same_pred, r.same_obj, r.same_ann) at c.row-r.ensures in
    row-asked (set-driven c.args.rules) c.requires c.in_ok-row.ensures.drawn (rw row at c.mark.ensures)
