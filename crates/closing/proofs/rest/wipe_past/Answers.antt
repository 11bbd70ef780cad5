-- Each lane's part is zeros.
use Rattle.std.proofs.Common.{rules}
use Rattle.closing.proofs.Wiping.{past_wiped}
use Rattle.closing.proofs.rest.wipe_past.Goals as goal

pub returns-clause-wiped : goal.returns-clause-wiped
returns-clause-wiped c =
    let t = c.args.table.now in
    past_wiped t.subj.now t.pred.now t.obj.now t.ann.now t.count c.requires c.fill.new.self c.fill-2.new.self c.fill-3.new.self c.fill-4.new.self (search rules) (search rules) (search rules) (search rules)
