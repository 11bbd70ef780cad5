-- Not named, no room, or put.
use Rattle.std.proofs.Common.{refl, sym, ◌∙◌}
use Rattle.annotation.specs.Numbered.{kind_number}
use Rattle.table.specs.Lent.{lanes_in}
use Rattle.ntnumber.specs.Lent.{list_in}
use Rattle.ntnumber.proofs.Numbers.{stands-few, stands-sort}
use Rattle.ntenter.proofs.Threes.{triple-unnamed, triple-ready, triple-full, triple-put}
use Rattle.ntenter.proofs.triple.Goals as goal

pub returns-in_default-clause-read : goal.returns-in_default-clause-read
returns-in_default-clause-read c =
    let t = c.args.table.now in
    λ x y z sx sy sz. triple-unnamed (kind_number t.kind) c.args.a (lanes_in t) t.count (list_in c.args.list.now) c.args.list.now.count c.requires.into.into x y z _ _ (c.in_default.ensures.numbered x y z sx sy sz) refl

pub put_row-requires : goal.put_row-requires
put_row-requires c =
    let t = c.args.table.now in
    let s = c.requires.into.subject in
    let p = c.requires.into.predicate in
    let o = c.requires.into.object in
    triple-ready (kind_number t.kind) c.args.a (lanes_in t) t.count (list_in c.args.list.now) c.args.list.now.count c.requires.into.into s.term p.term o.term _ _
    (c.in-Some.ensures.numbered s.term p.term o.term s.stands p.stands o.stands)
    refl
    (stands-few c.args.b.now c.args.end c.args.s _ s.stands)
    (sym (stands-sort c.args.b.now c.args.end c.args.p _ p.stands) ∙ c.requires.into.is_name)
    (stands-few c.args.b.now c.args.end c.args.o _ o.stands)

pub returns-in-Err-clause-read : goal.returns-in-Err-clause-read
returns-in-Err-clause-read c =
    let t = c.args.table.now in
    λ x y z sx sy sz. triple-full (kind_number t.kind) c.args.a (lanes_in t) t.count (list_in c.args.list.now) c.args.list.now.count c.requires.into.into x y z _ _ (c.in-Some.ensures.numbered x y z sx sy sz) refl _ _ _ _ c.in-Err.ensures.put refl

pub returns-in-Ok-clause-read : goal.returns-in-Ok-clause-read
returns-in-Ok-clause-read c =
    let t = c.args.table.now in
    λ x y z sx sy sz. triple-put (kind_number t.kind) c.args.a (lanes_in t) t.count (list_in c.args.list.now) c.args.list.now.count c.requires.into.into x y z _ _ (c.in-Some.ensures.numbered x y z sx sy sz) refl _ _ _ _ c.in-Ok.ensures.put refl
