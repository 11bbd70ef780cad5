-- A table as it is lent: four references to lanes, where a call begins and where it ends.
use Rattle.std.specs.Prelude.{◌≡◌, List, ℕ, get_or}
use Rattle.std.specs.Borrow.{MutBor}
use denote.Triple.Both.{Both}
use Rattle.table.specs.declared.lent.Row.{Row}
use Rattle.table.specs.declared.lent.Rows.{Rows}
use Rattle.table.specs.declared.lent.Table.{Table}
use Rattle.table.specs.Rows.{Lanes, lanes}

abbrev pub Lane : Type 0
Lane = MutBor (List ℕ)

abbrev pub lent : Lane → Lane → Lane → Lane → Lanes
lent s p o a = lanes s.now p.now o.now a.now

abbrev pub before : Both Lane Lane → Both Lane Lane → Both Lane Lane → Both Lane Lane → Lanes
before s p o a = lent s.entry p.entry o.entry a.entry

abbrev pub after : Both Lane Lane → Both Lane Lane → Both Lane Lane → Both Lane Lane → Lanes
after s p o a = lent s.exit p.exit o.exit a.exit

-- the lanes of a table that is lent to be changed, and of rows that are lent to be read, as they stand
abbrev pub lanes_in : Table → Lanes
lanes_in t = lanes t.subj.now t.pred.now t.obj.now t.ann.now

abbrev pub lanes_seen : Rows → Lanes
lanes_seen r = lanes r.subj.now r.pred.now r.obj.now r.ann.now

-- the same kind, and the same four lanes are lent: what stands in them may be another
pub record Kept (t u : Table) : Type 0 where
  pub same_kind : u.kind ≡ t.kind
  pub same_subj : u.subj.ghost_name ≡ t.subj.ghost_name
  pub same_pred : u.pred.ghost_name ≡ t.pred.ghost_name
  pub same_obj : u.obj.ghost_name ≡ t.obj.ghost_name
  pub same_ann : u.ann.ghost_name ≡ t.ann.ghost_name

abbrev pub row_seen : Rows → ℕ → Row
row_seen r i = record { s = get_or r.subj.now i 0; p = get_or r.pred.now i 0; o = get_or r.obj.now i 0; a = get_or r.ann.now i 0 }
