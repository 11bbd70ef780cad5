-- "Any two results allowed coincide": reading and writing give one answer each, and leave one content of what is lent. Assumes nothing.
use mathlib.Core.Path.{◌≡◌, sym, ap, ◌∙◌}
use mathlib.Core.List.{List}
use Prim.Native.Nat.{ℕ}
use Rattle.term.specs.declared.refusal.Verdict.{Verdict}
use Rattle.table.specs.Rows.{Lanes}
use Rattle.book.specs.Reading.{Reading}
use Rattle.book.specs.Writing.{Writing}

pub record SameReading (m m' : Lanes) (number place kind base rules count number' place' kind' base' rules' count' : ℕ) : Type 0 where
  pub same_number : number ≡ number'
  pub same_place : place ≡ place'
  pub same_kind : kind ≡ kind'
  pub same_base : base ≡ base'
  pub same-rules : rules ≡ rules'
  pub same_count : count ≡ count'
  pub same-lanes : m ≡ m'

pub read-determined : (b : List ℕ) (l m m' : Lanes) (number place kind base rules count number' place' kind' base' rules' count' : ℕ)
    → Reading b l m number place kind base rules count → Reading b l m' number' place' kind' base' rules' count'
    → SameReading m m' number place kind base rules count number' place' kind' base' rules' count'
read-determined b l m m' number place kind base rules count number' place' kind' base' rules' count' x y =
    let e = x.verdict_is ∙ sym y.verdict_is in
    record {
      same_number = ap (λ (v : Verdict). v.number) e;
      same_place = ap (λ (v : Verdict). v.place) e;
      same_kind = x.kind_is ∙ sym y.kind_is;
      same_base = x.base_is ∙ sym y.base_is;
      same-rules = x.rules_is ∙ sym y.rules_is;
      same_count = x.count_is ∙ sym y.count_is;
      same-lanes = x.lanes_are ∙ sym y.lanes_are;
    }

pub record SameWriting (out out' : List ℕ) (number place size number' place' size' : ℕ) : Type 0 where
  pub same_number : number ≡ number'
  pub same_place : place ≡ place'
  pub same_length : size ≡ size'
  pub same_bytes : out ≡ out'

pub write_determined : (kind base rules : ℕ) (l : Lanes) (n : ℕ) (b out out' : List ℕ) (number place size number' place' size' : ℕ)
    → Writing kind base rules l n b out number place size → Writing kind base rules l n b out' number' place' size'
    → SameWriting out out' number place size number' place' size'
write_determined kind base rules l n b out out' number place size number' place' size' x y =
    let e = x.verdict_is ∙ sym y.verdict_is in
    record {
      same_number = ap (λ (v : Verdict). v.number) e;
      same_place = ap (λ (v : Verdict). v.place) e;
      same_length = x.length_is ∙ sym y.length_is;
      same_bytes = x.bytes_are ∙ sym y.bytes_are;
    }
