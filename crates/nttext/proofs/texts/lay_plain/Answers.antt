-- A run lays itself.
use lib.Seq.{slice}
use Rattle.nttext.proofs.Runs.{run_lays}
use Rattle.nttext.proofs.Filling.{front-stops}
use Rattle.nttext.proofs.texts.lay_plain.Goals as goal

pub returns-in_err-last : goal.returns-in_err-last
returns-in_err-last c =
    rw c.from_residual.ensures
    (front-stops c.args.s.b.now c.args.from c.args.s.to c.args.s.quoted c.args.out.now c.args.at _ _ _ (run_lays c.args.s.b.now c.args.from c.args.s.to c.args.s.quoted c.requires.1 _ c.plain_run-run.ensures) c.in_err-last.ensures)

pub returns : goal.returns
returns c =
    record {
      text = slice c.args.from c.plain_run-run.result c.args.s.b.now;
      lays = run_lays c.args.s.b.now c.args.from c.args.s.to c.args.s.quoted c.requires.1 _ c.plain_run-run.ensures;
      lies = c.in_ok-last.ensures;
    }
