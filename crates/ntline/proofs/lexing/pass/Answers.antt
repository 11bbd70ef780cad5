-- A run of plain bytes.
use Rattle.std.proofs.Common.{◌≡◌}
use Rattle.ntline.specs.declared.lexing.State.TheVariants.{Iri, Quoted}
use Rattle.ntline.proofs.Passing.{iri-run, string-run}
use Rattle.ntline.proofs.lexing.pass.Goals as goal

pub returns-in-Iri-eq2-eq0-eq0 : goal.returns-in-Iri-eq2-eq0-eq0
returns-in-Iri-eq2-eq0-eq0 c =
    let m = c.in-Iri-eq2-eq0-eq0 in
    let e : c.args.s ≡ Iri 2 0 0 = cc in
    rw e (iri-run c.args.b.now c.args.at c.args.end c.plain_run.result c.plain_run.ensures)

pub returns-in-Quoted-eq0-eq0 : goal.returns-in-Quoted-eq0-eq0
returns-in-Quoted-eq0-eq0 c =
    let m = c.in-Quoted-eq0-eq0 in
    let e : c.args.s ≡ Quoted 0 0 = cc in
    rw e (string-run c.args.b.now c.args.at c.args.end c.plain_run-in-Quoted-eq0-eq0.result c.plain_run-in-Quoted-eq0-eq0.ensures)
