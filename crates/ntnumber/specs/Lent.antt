-- A names list and its hashes as they are lent to be changed.
use Rattle.std.specs.Prelude.{◌≡◌}
use Rattle.names.specs.Names.{NameLanes, lanes_of, entries_of}
use Rattle.names.specs.Hashed.{Hashed}
use Rattle.ntnumber.specs.declared.list.NameList.{NameList}

-- the lanes as they stand
abbrev pub list_in : NameList → NameLanes
list_in l = lanes_of l.terms.now l.ends.now l.text.now

-- the same lanes are lent: what stands in them may be another
pub record KeptList (l m : NameList) : Type 0 where
  pub same_terms : m.terms.ghost_name ≡ l.terms.ghost_name
  pub same_ends : m.ends.ghost_name ≡ l.ends.ghost_name
  pub same_text : m.text.ghost_name ≡ l.text.ghost_name
  pub same_heads : m.heads.ghost_name ≡ l.heads.ghost_name
  pub same_next : m.next.ghost_name ≡ l.next.ghost_name

-- the entries can be found by their hashes
abbrev pub HashedIn : NameList → Type 0
HashedIn l = Hashed (entries_of (list_in l) l.count) l.heads.now l.next.now
