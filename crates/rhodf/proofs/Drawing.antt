-- Drawing a conclusion: it is a legal row, it raises the table, and the closure stays the same. Assumes nothing.
use mathlib.Core.Path.{◌≡◌}
use mathlib.Core.Bool.{true}
use mathlib.Core.List.{List, [], ◌∷◌}
use Prim.Native.Nat.{ℕ, ◌<◌}
use native.Mathlib.Omega.{arith}
use Rattle.term.specs.Term.{is_legal_term, is_name_lem}
use Rattle.annotation.specs.Algebra.{Algebra, AtMost, Laws}
use Rattle.annotation.specs.Kinds.{algebra}
use Rattle.annotation.proofs.KindLaws.{laws}
use Rattle.annotation.proofs.Legal.{value-legal}
use Rattle.annotation.proofs.Order.{at_most_trans, bottom-at_most}
use Rattle.table.specs.Rows.{Triple, Row, row, add_row}
use Rattle.table.specs.Sound.{LegalRow, Ascending, SoundRows}
use Rattle.table.proofs.Ordering.{Tri, less, same, more, tri}
use Rattle.table.proofs.Values.{Small, AllSmall, held-legal}
use Rattle.rhodf.specs.Graph.{Graph, graph_of, Valued, meet_all}
use Rattle.rhodf.specs.Rules.{Rules, Drawn}
use Rattle.rhodf.specs.Closure.{Closed, Least}
use Rattle.rhodf.proofs.Graphs.{AllHeld, below-trans, meet_all-value, meet_all-grows, premises_held}
use Rattle.rhodf.proofs.Growing.{rows-valued, below-added, added_below}

-- a graph is closed if the conclusions of premises that hold are at most their value: other premises give bottom
pub closed-where_held : (K : Algebra) → Laws K → (R : Rules) (G : Graph) → Valued K G
    → ((ps : List Triple) (t : Triple) → R ps t → AllHeld G ps → Drawn t → AtMost K (meet_all K G ps) (G t)) → Closed K R G
closed-where_held K L R G v obeyed = record { closed = λ ps t rule named. go ps t rule named (tri 0 (meet_all K G ps)) }
  where
    go : (ps : List Triple) (t : Triple) → R ps t → Drawn t → Tri 0 (meet_all K G ps) → AtMost K (meet_all K G ps) (G t)
    go ps t rule named (less h) = obeyed ps t rule (premises_held K L G v ps h) named
    go ps t rule named (same e) = rw (← e) (bottom-at_most K L (G t))
    go ps t rule named (more h) = absurd (omega arith)

-- a conclusion with the And of its premises
abbrev pub conclusion_row : Algebra → Graph → List Triple → Triple → Row
conclusion_row K G ps t = row t.s t.p t.o (meet_all K G ps)

-- every closed graph above the rows has their conclusions
pub drawn-same_closure : (K : Algebra) → Laws K → (R : Rules) (rows : List Row) → AllSmall rows → Ascending rows → Valued K (graph_of rows)
    → (ps : List Triple) (t : Triple) → R ps t → Drawn t → Small (conclusion_row K (graph_of rows) ps t)
    → (G : Graph) → Least K R (graph_of (add_row K (conclusion_row K (graph_of rows) ps t) rows)) G → Least K R (graph_of rows) G
drawn-same_closure K L R rows smalls ascending v ps t follows named small G g =
    let r : Row = conclusion_row K (graph_of rows) ps t in
    record {
      valued = g.valued;
      is_closed = g.is_closed;
      holds = below-trans K L (below-added K L r rows small smalls ascending) g.holds;
      least = λ H w c b.
          g.least H w c (added_below K L r rows small smalls ascending H b
          (at_most_trans K L (meet_all K (graph_of rows) ps) (meet_all K H ps) (H t)
          (meet_all-grows K L (graph_of rows) H v w b ps) (c.closed ps t follows named)));
    }

-- a triple whose terms may stand where they do
pub record LegalTriple (t : Triple) : Type 0 where
  pub subject : is_legal_term t.s ≡ true
  pub predicate : is_name_lem t.p ≡ true
  pub object : is_legal_term t.o ≡ true

abbrev pub AllLegalTriples : List Triple → Type 0
AllLegalTriples [] = Unit {0}
AllLegalTriples (t ∷ ts) = LegalTriple t × AllLegalTriples ts

-- rules that conclude only of legal terms where the premises are legal
abbrev pub KeepLegal : Rules → Type 0
KeepLegal R = (ps : List Triple) (t : Triple) → R ps t → AllLegalTriples ps → (is_legal_term t.s ≡ true) × (is_legal_term t.o ≡ true)

-- premises whose And is not bottom are rows, and so legal
module _ (kind : ℕ) (rows : List Row) (sound : SoundRows kind rows) where
  held-are_legal : (ps : List Triple) → AllHeld (graph_of rows) ps → AllLegalTriples ps
  held-are_legal [] h = tt
  held-are_legal (p ∷ ps) h =
      let r = held-legal kind rows sound.legal p h.0 in
      (record { subject = r.subject; predicate = r.predicate; object = r.object }, held-are_legal ps h.1)

  pub conclusion_legal : (R : Rules) → KeepLegal R → (ps : List Triple) (t : Triple) → R ps t → Drawn t
      → 0 < meet_all (algebra kind) (graph_of rows) ps → LegalRow kind (conclusion_row (algebra kind) (graph_of rows) ps t)
  conclusion_legal R keeps ps t follows named h =
      let v = rows-valued kind rows sound in
      let terms = keeps ps t follows (held-are_legal ps (premises_held (algebra kind) (laws kind) (graph_of rows) v ps h)) in
      record {
        subject = terms.0;
        predicate = named;
        object = terms.1;
        annotation = value-legal (meet_all (algebra kind) (graph_of rows) ps) kind h (meet_all-value (algebra kind) (laws kind) (graph_of rows) v ps);
      }
