-- As the line says.
use Rattle.annotation.specs.Numbered.{kind_number}
use Rattle.table.specs.Lent.{lanes_in}
use Rattle.ntnumber.specs.Lent.{list_in}
use Rattle.utf8.specs.Texts.{seen}
use Rattle.ntenter.proofs.Said.{line-wrong, line-nothing, triple-into, line-triple}
use Rattle.ntenter.proofs.read_line.Goals as goal

pub triple-requires-clause-into : goal.triple-requires-clause-into
triple-requires-clause-into c =
    let a = c.args in
    let t = a.table.now in
    triple-into (kind_number t.kind) a.a a.b.now a.end (seen a.b.now a.at a.end) (lanes_in t) t.count (list_in a.list.now) a.list.now.count c.requires.into c.requires.there.1 _ _ _ c.in-Triple.ensures

pub returns-in-Bad-clause-read : goal.returns-in-Bad-clause-read
returns-in-Bad-clause-read c =
    let a = c.args in
    let t = a.table.now in
    line-wrong (kind_number t.kind) a.a a.b.now a.end (seen a.b.now a.at a.end) (lanes_in t) t.count (list_in a.list.now) a.list.now.count c.requires.into c.in-Bad.ensures

pub returns-in-Empty-clause-read : goal.returns-in-Empty-clause-read
returns-in-Empty-clause-read c =
    let a = c.args in
    let t = a.table.now in
    line-nothing (kind_number t.kind) a.a a.b.now a.end (seen a.b.now a.at a.end) (lanes_in t) t.count (list_in a.list.now) a.list.now.count c.requires.into c.in-Empty.ensures

pub returns-in-Triple-clause-read : goal.returns-in-Triple-clause-read
returns-in-Triple-clause-read c =
    let a = c.args in
    let t = a.table.now in
    line-triple (kind_number t.kind) a.a a.b.now a.end (seen a.b.now a.at a.end) (lanes_in t) t.count (list_in a.list.now) a.list.now.count c.requires.into c.requires.there.1 _ _ _ c.in-Triple.ensures _ _ _ c.triple.ensures.read
