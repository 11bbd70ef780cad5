-- Refused or done, in one word.
use mathlib.Core.Path.{refl}
use Rattle.table.specs.Rows.{lanes}
use Rattle.names.specs.Names.{lanes_of}
use Rattle.trackvesper.proofs.TriplesPlaced.{write_place, write_refused, write_done}
use borrow.Author.Rules.{rules}
use Rattle.trackvesper.proofs.triples.trackvesper_write_triples.Goals as goal

pub write_triples-done-requires : goal.write_triples-done-requires
write_triples-done-requires c = search rules

pub pack-requires : goal.pack-requires
pack-requires c =
    let the-args = c.args in
    let the-write-triples = c.write_triples-done in
    write_place the-args.kind (lanes the-args.subj.now the-args.pred.now the-args.obj.now the-args.ann.now) the-args.count (lanes_of the-args.terms.now the-args.ends.now the-args.text.now) the-args.names the-args.out.now _ _ _ _ the-write-triples.ensures

pub shape_of-out-then-done-gt0 : goal.shape_of-out-then-done-gt0
shape_of-out-then-done-gt0 c = search rules

pub returns-then-done-gt0 : goal.returns-then-done-gt0
returns-then-done-gt0 c =
    let the-args = c.args in
    let the-write-triples = c.write_triples-done in
    let the-if1 = c.if-done-gt0 in
    let the-pack = c.pack in
    write_refused the-args.kind (lanes the-args.subj.now the-args.pred.now the-args.obj.now the-args.ann.now) the-args.count (lanes_of the-args.terms.now the-args.ends.now the-args.text.now) the-args.names the-args.out.now _ _ _ _ the-write-triples.ensures the-if1.true _ the-pack.ensures

pub shape_of-out : goal.shape_of-out
shape_of-out c = search rules

pub returns : goal.returns
returns c =
    let the-args = c.args in
    let the-write-triples = c.write_triples-done in
    let the-if1 = c.if-done-gt0 in
    write_done the-args.kind (lanes the-args.subj.now the-args.pred.now the-args.obj.now the-args.ann.now) the-args.count (lanes_of the-args.terms.now the-args.ends.now the-args.text.now) the-args.names the-args.out.now _ _ _ _ the-write-triples.ensures the-if1.false _ refl
