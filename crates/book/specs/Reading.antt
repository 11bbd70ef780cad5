-- Reading a book into lent lanes: kind, base year, rule set, rows, or a number and place.
use Rattle.std.specs.Prelude.{◌≡◌, Bool, true, false, cond, List, [], ◌∷◌, ◌++◌, ℕ, zero, suc, length, eqb, leb, ltb}
use Rattle.term.specs.Refusal.{Check, refuse, verdict, done, first}
use Rattle.term.specs.declared.refusal.Verdict.{Verdict}
use Rattle.annotation.specs.Kinds.{algebra}
use Rattle.table.specs.Rows.{Row, Lanes, add_row, filled}
use Rattle.table.specs.Checks.{is_unfit}
use Rattle.field.specs.Fields.{behind}
use Rattle.book.specs.Format.{head_checks, head_kind, head_base, head_rules, field_checks, row_in}

-- what a book reads to
pub record Read : Type 0 where
  pub verdict_of : Verdict
  pub kind : ℕ
  pub base : ℕ
  pub rules : ℕ
  pub rows : List Row

-- "A refused reading gives kind, base year and count 0", and rule set 0
abbrev pub refused : Verdict → Read
refused v = record { verdict_of = v; kind = 0; base = 0; rules = 0; rows = [] }

abbrev pub read_as : ℕ → ℕ → ℕ → List Row → Read
read_as kind base rules rows = record { verdict_of = done; kind = kind; base = base; rules = rules; rows = rows }

-- go on where the verdict is done (the work that follows waits behind a λ)
abbrev pub go_on : Bool → Verdict → (Unit {0} → Read) → Read
go_on true v next = next tt
go_on false v next = refused v

abbrev pub when_done : Verdict → (Unit {0} → Read) → Read
when_done v next = go_on (eqb v.number 0) v next

abbrev pub when_more : Bool → Read → (Unit {0} → Read) → Read
when_more true over next = over
when_more false over next = next tt

-- a field's checks, and "12 last": its row does not fit the room beside the rows before it
abbrev pub step_checks : ℕ → List ℕ → ℕ → ℕ → List Row → List Check
step_checks kind b room at rows =
    field_checks kind b at ++ (refuse (ltb room (length (add_row (algebra kind) (row_in b at) rows))) 12 at ∷ [])

-- "field by field"; "Order is free and equal triples join". A field has bytes of its own, so there are no more fields than bytes.
unfoldable pub fields_from : ℕ → ℕ → ℕ → ℕ → List ℕ → ℕ → ℕ → List Row → Read
fields_from zero kind base rules b room at rows = read_as kind base rules rows
fields_from (suc fuel) kind base rules b room at rows =
    when_more (leb (length b) at) (read_as kind base rules rows)
    (λ _.
    when_done (first (step_checks kind b room at rows))
    (λ _. fields_from fuel kind base rules b room (behind b at) (add_row (algebra kind) (row_in b at) rows)))

-- all fields, the first at `start`
abbrev pub fields_of : ℕ → ℕ → ℕ → List ℕ → ℕ → ℕ → Read
fields_of kind base rules b room start = fields_from (length b) kind base rules b room start []

-- the fields begin behind the head, at 7 or 8
unfoldable pub read_book : List ℕ → ℕ → Read
read_book b room = when_done (first (head_checks b)) (λ _. fields_of (head_kind b) (head_base b) (head_rules b) b room (behind b 0))

-- "book over 65,535 bytes"
abbrev pub longest_book : ℕ
longest_book = 65535

-- "Reading: 11, 13, then field by field"
abbrev pub lend_checks : List ℕ → Lanes → List Check
lend_checks b l = refuse (is_unfit l) 11 0 ∷ refuse (ltb longest_book (length b)) 13 0 ∷ []

abbrev pub reading : List ℕ → Lanes → Read
reading b l = when_done (first (lend_checks b l)) (λ _. read_book b (length l.subj))

-- "11, 13 .. change nothing"; "Other refusals of reading .. leave all rows zero and count 0"; "rows past the count are all zero"
pub record Reading (b : List ℕ) (l m : Lanes) (number place kind base rules count : ℕ) : Type 0 where
  pub verdict_is : verdict number place ≡ (reading b l).verdict_of
  pub kind_is : kind ≡ (reading b l).kind
  pub base_is : base ≡ (reading b l).base
  pub rules_is : rules ≡ (reading b l).rules
  pub count_is : count ≡ length (reading b l).rows
  pub lanes_are : m ≡ cond (eqb (first (lend_checks b l)).number 0) (filled (reading b l).rows l) l
