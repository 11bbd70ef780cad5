-- What the parts of reading and writing promise one another.
use Rattle.std.specs.Prelude.{◌≡◌, true, List, ℕ, ◌+◌, ◌*◌, ◌≤◌, ◌<◌, length, Result, Ok, Err}
use Rattle.term.specs.Refusal.{Check, verdict, done, first}
use Rattle.term.specs.declared.refusal.Verdict.{Verdict}
use Rattle.term.specs.declared.refusal.Refused.{Refused}
use Rattle.term.specs.Refused.{verdict_of}
use Rattle.annotation.specs.declared.Kind.{Kind}
use Rattle.ruleset.specs.declared.RuleSet.{RuleSet}
use Rattle.annotation.specs.Numbered.{kind_number}
use Rattle.ruleset.specs.Numbered.{set_number}
use Rattle.table.specs.Rows.{Row, Lanes, row, row_at, rows_of, filled}
use Rattle.table.specs.Sound.{Sound}
use Rattle.table.specs.Places.{RowsWithin}
use Rattle.field.specs.Fields.{size_at, behind}
use Rattle.book.specs.declared.content.Head.{Head}
use Rattle.book.specs.declared.content.Content.{Content}
use Rattle.book.specs.declared.ReadDone.{ReadDone}
use Rattle.book.specs.Format.{head_length_lem, is_head_length, triple_size, head_says_checks, head_content_checks, head_checks, head_edition, head_kind, head_base, head_rules, content_checks, field_checks, row_in}
use Rattle.book.specs.Reading.{Read, fields_from, fields_of, read_as, refused}

-- refused by the first of these checks that does not pass
pub record RefusedBy (checks : List Check) (v : Verdict) : Type 0 where
  pub verdict_is : v ≡ first checks
  pub some : 0 < v.number

-- all of these checks pass, of a kind and a rule set by their numbers, or the first that does not is said
pub record Passes (kind rules : ℕ) (checks : List Check) (k : Kind) (set : RuleSet) : Type 0 where
  pub all : first checks ≡ done
  pub kind_is : kind_number k ≡ kind
  pub rules_is : set_number set ≡ rules

abbrev pub Writes : ℕ → ℕ → List Check → Result (Kind × RuleSet) Refused → Type 0
Writes kind rules checks (Ok p) = Passes kind rules checks p.0 p.1
Writes kind rules checks (Err e) = RefusedBy checks (verdict_of e)

-- where these checks pass: what the head says, and where the fields begin
pub record HeadSaid (checks : List Check) (b : List ℕ) (h : Head) : Type 0 where
  pub passes : first checks ≡ done
  pub kind_is : kind_number h.kind ≡ head_kind b
  pub base_is : h.base ≡ head_base b
  pub rules_is : set_number h.rules ≡ head_rules b
  pub next_is : h.next ≡ behind b 0

-- the head's checks, or the last of them: what the head says, or the refusal
abbrev pub HeadBy : List Check → List ℕ → Result Head Refused → Type 0
HeadBy checks b (Ok h) = HeadSaid checks b h
HeadBy checks b (Err e) = RefusedBy checks (verdict_of e)

abbrev pub HeadOf : List ℕ → Result Head Refused → Type 0
HeadOf b r = HeadBy (head_checks b) b r

-- a whole field of a length that a head may have
pub record HeadField (b : List ℕ) (size : ℕ) : Type 0 where
  pub size_is : size ≡ size_at b 0
  pub fits : 3 + size ≤ length b
  pub head_length_lem_2 : is_head_length size ≡ true

abbrev pub HeadContent : List ℕ → Result Head Refused → Type 0
HeadContent b r = HeadBy (head_content_checks b) b r

-- a whole field of the length that suits its edition, and where the fields begin
pub record HeadSuited (b : List ℕ) (edition next : ℕ) : Type 0 where
  pub edition_is : edition ≡ head_edition b
  pub fits : 3 + head_length_lem edition ≤ length b
  pub next_is : next ≡ behind b 0

abbrev pub HeadSays : List ℕ → Result Head Refused → Type 0
HeadSays b r = HeadBy (head_says_checks b) b r

abbrev pub row_of : Content → Row
row_of c = row c.row.s c.row.p c.row.o c.row.a

-- where these checks pass: a field's row, and where the next field begins
pub record RowSaid (checks : List Check) (b : List ℕ) (at next : ℕ) (c : Content) : Type 0 where
  pub passes : first checks ≡ done
  pub row_is : row_of c ≡ row_in b at
  pub next_is : c.next ≡ next

abbrev pub RowBy : List Check → List ℕ → ℕ → ℕ → Result Content Refused → Type 0
RowBy checks b at next (Ok c) = RowSaid checks b at next c
RowBy checks b at next (Err e) = RefusedBy checks (verdict_of e)

-- the content of a whole triple field, with `next` behind it
abbrev pub TripleContent : ℕ → List ℕ → ℕ → ℕ → Result Content Refused → Type 0
TripleContent kind b at next r = RowBy (content_checks kind (row_in b at) at) b at next r

-- a field's refusal, or its row, and where the next field begins
abbrev pub ContentOf : ℕ → List ℕ → ℕ → Result Content Refused → Type 0
ContentOf kind b at r = RowBy (field_checks kind b at) b at (behind b at) r

-- lanes of zeros, and no row yet
pub record Fresh (kind : ℕ) (l : Lanes) : Type 0 where
  pub sound : Sound kind l 0
  pub zero : (i : ℕ) → row_at l i ≡ row 0 0 0 0

-- the fields from `start` up to `at` are read into count rows, and those from there on are left
pub record Reached (kind : ℕ) (b : List ℕ) (start : ℕ) (l m : Lanes) (at count : ℕ) : Type 0 where
  pub sound : Sound kind m count
  pub as_long : length m.subj ≡ length l.subj
  pub zero : (i : ℕ) → count ≤ i → row_at m i ≡ row 0 0 0 0
  pub fuel : ℕ
  pub enough : length b ≤ at + fuel
  pub meaning : (base rules : ℕ)
      → fields_of kind base rules b (length l.subj) start ≡ fields_from fuel kind base rules b (length l.subj) at (rows_of m count)

-- all fields from `start` on are read into count rows
pub record FieldsDone (kind : ℕ) (b : List ℕ) (start : ℕ) (l m : Lanes) (count : ℕ) : Type 0 where
  pub meaning : (base rules : ℕ) → fields_of kind base rules b (length l.subj) start ≡ read_as kind base rules (rows_of m count)
  pub filled_is : m ≡ filled (rows_of m count) l
  pub sound : Sound kind m count
  pub as_long : length m.subj ≡ length l.subj

-- one is refused, behind count rows
pub record FieldsRefused (kind : ℕ) (b : List ℕ) (start : ℕ) (l m : Lanes) (count : ℕ) (v : Verdict) : Type 0 where
  pub meaning : (base rules : ℕ) → fields_of kind base rules b (length l.subj) start ≡ refused v
  pub sound : Sound kind m count
  pub as_long : length m.subj ≡ length l.subj

abbrev pub FieldsRead : ℕ → List ℕ → ℕ → Lanes → Lanes → ℕ → Result (Unit {0}) Refused → Type 0
FieldsRead kind b start l m count (Ok u) = FieldsDone kind b start l m count
FieldsRead kind b start l m count (Err e) = FieldsRefused kind b start l m count (verdict_of e)

-- "A refused reading gives kind, base year and count 0", and rule set 0
abbrev pub refused_done : ℕ → ℕ → ReadDone
refused_done number place = record { number = number; place = place; kind = 0; base = 0; rules = 0; count = 0 }

-- what is read is said and left in the lanes; a refusal leaves all rows zero
pub record ReadInto (what : Read) (l m : Lanes) (d : ReadDone) : Type 0 where
  pub verdict_is : verdict d.number d.place ≡ what.verdict_of
  pub kind_is : d.kind ≡ what.kind
  pub base_is : d.base ≡ what.base
  pub rules_is : d.rules ≡ what.rules
  pub count_is : d.count ≡ length what.rows
  pub lanes_are : m ≡ filled what.rows l

-- the rows are within the lanes, and their fields within the bytes
pub record Writable (l : Lanes) (n start : ℕ) (out : List ℕ) : Type 0 where
  pub rows : RowsWithin l n
  pub bytes : start + triple_size * n ≤ length out
