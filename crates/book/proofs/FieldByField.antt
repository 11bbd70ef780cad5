-- All fields one after another, each into the table: what is reached, and where it stops. Assumes nothing.
use mathlib.Core.Path.{◌≡◌, refl, sym, ap, ◌∙◌}
use mathlib.Core.Bool.{Bool, true, false}
use mathlib.Core.List.{List, [], ◌∷◌}
use Prim.Native.Nat.{ℕ, zero, suc, ◌+◌, ◌≤◌, ◌<◌}
use native.Mathlib.Omega.{arith}
use lib.ListN.{length}
use lib.Dec.{ltb}
use borrow.Author.Tests.{le-leb, lt-leb, ne_eqb}
use Rattle.ground.specs.Lists.{tab}
use Rattle.term.specs.Refusal.{Check, refuse, verdict, done, first}
use Rattle.term.specs.declared.refusal.Verdict.{Verdict}
use Rattle.term.proofs.Firsts.{first-none, first-clear, first_holds, first_passes, first_stops}
use Rattle.annotation.specs.Kinds.{algebra}
use Rattle.table.specs.Rows.{Row, Lanes, rows_of, add_row, filled}
use Rattle.table.specs.Sound.{Sound}
use Rattle.table.specs.Adding.{rows_with}
use Rattle.table.specs.Putting.{PutInto, Put}
use Rattle.table.proofs.Laid.{filled_is}
use Rattle.table.proofs.Soundness.{sound-as_long, sound-within}
use Rattle.field.specs.Fields.{behind}
use Rattle.book.specs.declared.content.Content.{Content}
use Rattle.book.specs.Format.{field_checks, row_in}
use Rattle.book.specs.Reading.{step_checks, fields_from, read_as, when_done}
use Rattle.book.specs.Inner.{row_of, RefusedBy, RowSaid, Fresh, Reached, FieldsDone, FieldsRefused}
use Rattle.book.proofs.Contents.{field_numbered, field_legal}

-- where no field is left
pub fields_over : (kind base rules room : ℕ) (b : List ℕ) (at fuel : ℕ) (R : List Row) → length b ≤ at
    → fields_from fuel kind base rules b room at R ≡ read_as kind base rules R
unfolding fields_from
fields_over kind base rules room b at zero R h = refl
fields_over kind base rules room b at (suc fuel) R h = rw (le-leb (length b) at h) refl

-- field after field
module _ (kind : ℕ) (b : List ℕ) (start : ℕ) (l : Lanes) where
  pub reached-start : Fresh kind l → Reached kind b start l l start 0
  unfolding tab
  reached-start f = record {
    sound = f.sound;
    as_long = refl;
    zero = λ i q. f.zero i;
    fuel = length b;
    enough = omega arith;
    meaning = λ base rules. refl;
  }

  module _ (m : Lanes) (at count : ℕ) (h : Reached kind b start l m at count) where
    abbrev R : List Row
    R = rows_of m count

    abbrev steps : List Check
    steps = step_checks kind b (length l.subj) at R

    -- a turn of the definition, where more is left
    abbrev Turn : ℕ → ℕ → ℕ → ℕ → Type 0
    Turn fuel base rules left = fields_from fuel kind base rules b (length l.subj) at R
        ≡ when_done (first steps) (λ _. fields_from left kind base rules b (length l.subj) (behind b at) (add_row (algebra kind) (row_in b at) R))

    turn : (fuel : ℕ) → length b ≤ at + fuel → at < length b → (left : ℕ) × (fuel ≡ suc left) × ((base rules : ℕ) → Turn fuel base rules left)
    unfolding fields_from
    turn zero e q = absurd (omega arith)
    turn (suc fuel) e q = (fuel, refl, λ base rules. rw (lt-leb (length b) at q) refl)

    module _ (q : at < length b) where
      stops : (v : Verdict) → v ≡ first steps → 0 < v.number → (m' : Lanes) (n : ℕ) → Sound kind m' n → length m'.subj ≡ length l.subj → FieldsRefused kind b start l m' n v
      stops v e p m' n s as_long = record {
        meaning = λ base rules. h.meaning base rules ∙ (turn h.fuel h.enough q).2 base rules ∙ rw (← e, ne_eqb v.number 0 (λ z. omega arith)) refl;
        sound = s;
        as_long = as_long;
      }

      pub field_refused : (v : Verdict) → RefusedBy (field_checks kind b at) v → FieldsRefused kind b start l m count v
      field_refused v r =
          stops v (r.verdict_is ∙ sym (first_stops (field_checks kind b at) _ (rw (← r.verdict_is) r.some))) r.some m count h.sound h.as_long

      module _ (c : Content) (f : RowSaid (field_checks kind b at) b at (behind b at) c) where
        pub field_ready : PutInto kind (row_of c) m count
        field_ready = record { sound = h.sound; legal = rw f.row_is (field_legal kind b at f.passes) }

        pub field_on : at < c.next
        field_on = omega (arith, f.next_is)

        module _ (m' : Lanes) (full changed : Bool) (n : ℕ) (p : Put kind (row_of c) m count m' full changed n) where
          same : rows_with kind (row_of c) m count ≡ add_row (algebra kind) (row_in b at) R
          same = ap (λ (x : Row). add_row (algebra kind) x R) f.row_is

          full_judged : full ≡ ltb (length l.subj) (length (add_row (algebra kind) (row_in b at) R))
          full_judged = p.full_is ∙ rw (h.as_long, same) refl

          past_field : first steps ≡ first (refuse (ltb (length l.subj) (length (add_row (algebra kind) (row_in b at) R))) 12 at ∷ [])
          past_field = first-clear (field_checks kind b at) _ (field_numbered kind b at) (ap (λ (v : Verdict). v.number) f.passes)

          still_long : length m'.subj ≡ length l.subj
          still_long = p.as_long.same_subj ∙ h.as_long

          pub field_full : full ≡ true → (v : Verdict) → v ≡ verdict 12 at → FieldsRefused kind b start l m' n v
          field_full e v ev = stops v (ev ∙ sym (past_field ∙ first_holds _ 12 at [] (sym full_judged ∙ e))) (rw ev (omega arith)) m' n p.sound still_long

          pub field_put : full ≡ false → Reached kind b start l m' c.next n
          field_put e =
              let t = turn h.fuel h.enough q in
              let over : first steps ≡ done = past_field ∙ first_passes _ 12 at [] (sym full_judged ∙ e) ∙ first-none in
              record {
                sound = p.sound;
                as_long = still_long;
                zero = λ i w. p.rest i w ∙ h.zero i (omega (arith, p.more));
                fuel = t.0;
                enough = omega (arith, h.enough, t.1, f.next_is);
                meaning = λ base rules. h.meaning base rules ∙ t.2 base rules ∙ rw (over, p.rows_are e ∙ same, f.next_is) refl;
              }

    -- the lanes are the rows read, and zeros
    laid-over : Sound kind l 0 → m ≡ filled R l
    laid-over s =
        let g = h.sound in
        let e = h.as_long in
        filled_is l m count (sound-as_long s g e) (sound-within s (omega (arith, g.within))) h.zero

    pub reached-end : Sound kind l 0 → length b ≤ at → FieldsDone kind b start l m count
    reached-end s q = record {
      meaning = λ base rules. h.meaning base rules ∙ fields_over kind base rules (length l.subj) b at h.fuel R q;
      filled_is = laid-over s;
      sound = h.sound;
      as_long = h.as_long;
    }
