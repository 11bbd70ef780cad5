-- Refused or done, in one word.
use mathlib.Core.Path.{refl}
use native.Mathlib.Omega.{arith}
use Rattle.table.specs.Rows.{lanes}
use Rattle.names.specs.Names.{lanes_of}
use Rattle.trackvesper.proofs.TriplesPlaced.{read-place, read-refused, read_done, read_names, read_count}
use Rattle.trackvesper.proofs.triples.trackvesper_read_triples.Goals as goal

pub pack-requires : goal.pack-requires
pack-requires c =
    let the-args = c.args in
    let the-read-triples = c.read_triples-done in
    read-place the-args.kind the-args.a the-args.file.now (lanes the-args.subj.now the-args.pred.now the-args.obj.now the-args.ann.now) _ (lanes_of the-args.terms.now the-args.ends.now the-args.text.now) _ _ _ _ _ the-read-triples.ensures

pub returns-then-done-gt0 : goal.returns-then-done-gt0
returns-then-done-gt0 c =
    let the-args = c.args in
    let the-read-triples = c.read_triples-done in
    let the-if1 = c.if-done-gt0 in
    let the-pack = c.pack in
    read-refused the-args.kind the-args.a the-args.file.now (lanes the-args.subj.now the-args.pred.now the-args.obj.now the-args.ann.now) _ (lanes_of the-args.terms.now the-args.ends.now the-args.text.now) _ _ _ _ _ the-read-triples.ensures the-if1.true _ the-pack.ensures

pub returns : goal.returns
returns c =
    let the-args = c.args in
    let the-read-triples = c.read_triples-done in
    let the-if1 = c.if-done-gt0 in
    read_done the-args.kind the-args.a the-args.file.now (lanes the-args.subj.now the-args.pred.now the-args.obj.now the-args.ann.now) _ (lanes_of the-args.terms.now the-args.ends.now the-args.text.now) _ _ _ _ _ the-read-triples.ensures the-if1.false _ refl

pub overflow_mul-result : goal.overflow_mul-result
overflow_mul-result c =
    let the-args = c.args in
    let the-read-triples = c.read_triples-done in
    omega (arith, read_names the-args.kind the-args.a the-args.file.now (lanes the-args.subj.now the-args.pred.now the-args.obj.now the-args.ann.now) _ (lanes_of the-args.terms.now the-args.ends.now the-args.text.now) _ _ _ _ _ the-read-triples.ensures)

pub overflow_add-result : goal.overflow_add-result
overflow_add-result c =
    let the-args = c.args in
    let the-read-triples = c.read_triples-done in
    omega (arith, read_names the-args.kind the-args.a the-args.file.now (lanes the-args.subj.now the-args.pred.now the-args.obj.now the-args.ann.now) _ (lanes_of the-args.terms.now the-args.ends.now the-args.text.now) _ _ _ _ _ the-read-triples.ensures, read_count the-args.kind the-args.a the-args.file.now (lanes the-args.subj.now the-args.pred.now the-args.obj.now the-args.ann.now) _ (lanes_of the-args.terms.now the-args.ends.now the-args.text.now) _ _ _ _ _ the-read-triples.ensures)
