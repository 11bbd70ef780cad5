-- "Any two results allowed coincide": adding gives one number, place and count, and leaves one content of the lanes. Assumes nothing.
use mathlib.Core.Path.{◌≡◌, sym, ap, ◌∙◌}
use Prim.Native.Nat.{ℕ}
use Rattle.term.specs.declared.refusal.Verdict.{Verdict}
use Rattle.table.specs.Rows.{Row, Lanes}
use Rattle.table.specs.Adding.{Adding}

pub record SameAdding (m m' : Lanes) (number place count number' place' count' : ℕ) : Type 0 where
  pub same_number : number ≡ number'
  pub same_place : place ≡ place'
  pub same_count : count ≡ count'
  pub same-lanes : m ≡ m'

pub add_determined : (kind : ℕ) (r : Row) (l : Lanes) (n : ℕ) (m m' : Lanes) (number place count number' place' count' : ℕ)
    → Adding kind r l n m number place count → Adding kind r l n m' number' place' count'
    → SameAdding m m' number place count number' place' count'
add_determined kind r l n m m' number place count number' place' count' a b =
    let e = a.verdict_is ∙ sym b.verdict_is in
    record {
      same_number = ap (λ (v : Verdict). v.number) e;
      same_place = ap (λ (v : Verdict). v.place) e;
      same_count = a.count_is ∙ sym b.count_is;
      same-lanes = a.lanes_are ∙ sym b.lanes_are;
    }
