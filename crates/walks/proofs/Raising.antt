-- A conclusion put in: the table rises no further than every closed graph above it. Assumes nothing.
use mathlib.Core.Path.{◌≡◌, refl, sym, ap, ◌∙◌}
use mathlib.Core.Bool.{Bool, true, false}
use mathlib.Core.List.{List}
use mathlib.Core.Logic.{◌⊎◌, inl, inr, ⊎_elim}
use Prim.Native.Nat.{ℕ, ◌<◌}
use lib.ListN.{length}
use borrow.Author.Tests.{ltb-true, ne_eqb}
use Rattle.term.specs.Term.{is_name_lem}
use Rattle.annotation.specs.Algebra.{AtMost}
use Rattle.annotation.specs.Kinds.{algebra}
use Rattle.annotation.proofs.KindLaws.{laws}
use Rattle.annotation.proofs.Legal.{value-legal}
use Rattle.annotation.proofs.Order.{bottom-at_most}
use Rattle.table.specs.Rows.{Triple, Row, Lanes, triple, add_row, rows_of, value_at}
use Rattle.table.specs.Sound.{SoundRows}
use Rattle.table.specs.Putting.{PutInto, Put}
use Rattle.table.proofs.Soundness.{sound-list}
use Rattle.table.proofs.Putting.{sound-add}
use Rattle.table.proofs.Values.{triple_of, legal-small, all_legal_small, value-add_same, value-add_other}
use Rattle.rhodf.specs.Graph.{graph_of, Below}
use Rattle.rhodf.specs.Rules.{Rules}
use Rattle.rhodf.proofs.Graphs.{below_self}
use Rattle.rhodf.proofs.Growing.{below-added, added_below}
use Rattle.walks.specs.Rising.{Entails}
use Rattle.walks.specs.Walks.{Concluded, Raised}
use Rattle.walks.proofs.Rising.{which, drew-none}

module _ {R : Rules} {kind : ℕ} {r : Row} {l : Lanes} {n : ℕ} (c : Concluded R kind r l n) where
  abbrev rows : List Row
  rows = rows_of l n

  pub raised_unnamed : (is_name_lem r.p ≡ true → ⊥) → Raised R kind r l n l false false n
  raised_unnamed no_name = drew-none c.sound (λ named. absurd (no_name named))

  pub raised_bottom : r.a ≡ 0 → Raised R kind r l n l false false n
  raised_bottom e = drew-none c.sound (λ named. rw e (bottom-at_most (algebra kind) (laws kind) (graph_of rows (triple r.s r.p r.o))))

  module _ (named : is_name_lem r.p ≡ true) (some : 0 < r.a) where
    pub conclusion_put : PutInto kind r l n
    conclusion_put = record {
      sound = c.sound;
      legal = record { subject = c.subject; predicate = named; object = c.object; annotation = value-legal r.a kind some c.value };
    }

    module _ {m : Lanes} {full changed : Bool} {n' : ℕ} (put : Put kind r l n m full changed n') where
      abbrev after : List Row
      after = add_row (algebra kind) r rows

      sound-before : SoundRows kind rows
      sound-before = sound-list c.sound

      after-entailed : Entails R kind rows after
      after-entailed H h =
          added_below (algebra kind) (laws kind) r rows (legal-small conclusion_put.legal) (all_legal_small kind rows sound-before.legal) sound-before.ascending
          H h.2 (c.follows named H h)

      after-above : Below (algebra kind) (graph_of rows) (graph_of after)
      after-above =
          below-added (algebra kind) (laws kind) r rows (legal-small conclusion_put.legal) (all_legal_small kind rows sound-before.legal) sound-before.ascending

      added_elsewhere : (t : Triple) → (t.s ≡ r.s → ⊥) → value_at after t ≡ value_at rows t
      added_elsewhere t other = value-add_other (algebra kind) r (legal-small conclusion_put.legal) rows (all_legal_small kind rows sound-before.legal) t
          (rw (ne_eqb r.s t.s (λ e. other (sym e))) refl)

      rows-now : (rows_of m n' ≡ rows) ⊎ (rows_of m n' ≡ after)
      rows-now = ⊎_elim
          (λ t. let st = put.still (put.full_still t) in inl (rw (st.0, st.1) refl))
          (λ f. inr (put.rows_are f)) (which full)

      -- where nothing changed, joining changes nothing
      put_inside : full ≡ false → changed ≡ false → AtMost (algebra kind) r.a (value_at rows (triple_of r))
      put_inside f z =
          let st = put.still z in
          let e : rows ≡ after = (rw (st.0, st.1) refl) ∙ put.rows_are f in
          let j = value-add_same (algebra kind) r (legal-small conclusion_put.legal) (laws kind) rows (all_legal_small kind rows sound-before.legal) sound-before.ascending in
          (laws kind).join_comm r.a (value_at rows (triple_of r)) ∙ sym j ∙ ap (λ (S : List Row). value_at S (triple_of r)) (sym e)

      pub raised_put : Raised R kind r l n m full changed n'
      raised_put = record {
        risen = record {
          sound = put.sound;
          as_long = put.as_long;
          more = put.more;
          up = ⊎_elim (λ e. rw e (below_self (algebra kind) (laws kind) (graph_of rows))) (λ e. rw e after-above) rows-now;
          entailed = λ H h. ⊎_elim (λ e. rw e h.2) (λ e. rw e (after-entailed H h)) rows-now;
          still = put.still;
          grows = put.grows;
          over = λ t. record {
            others = after;
            sound = sound-add kind r rows conclusion_put.legal sound-before;
            long = ltb-true (length l.subj) (length after) (sym put.full_is ∙ t);
            entailed = after-entailed;
          };
        };
        kept = λ t other. ⊎_elim (λ e. rw e refl) (λ e. rw e (added_elsewhere t other)) rows-now;
        inside = λ f z drawn. put_inside f z;
      }
