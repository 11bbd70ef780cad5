-- The text for the book's bytes, and for a question's, step by step. Assumes nothing.
use mathlib.Core.Path.{◌≡◌, refl, ap, ◌∙◌}
use mathlib.Core.Bool.{true, false}
use Rattle.std.proofs.Common.{◌⊎◌, inl, inr}
use mathlib.Core.List.{List, []}
use Prim.Native.Nat.{ℕ, ◌≤◌, ◌<◌}
use native.Mathlib.Omega.{arith}
use lib.ListN.{length, take}
use Rattle.ruleset.specs.RuleSet.{is_rule_set}
use Rattle.table.specs.Rows.{Lanes, rows_of}
use Rattle.book.specs.Reading.{Reading}
use Rattle.closing.specs.Closing.{Closing}
use Rattle.trackvesper.specs.ClosedBook.{fresh_lanes, said}
use Rattle.trackvesper.proofs.ReadAndClosed.{
  number_of,
  place_of,
  full,
  full_is,
  not_full,
  closed-sound,
  closed-as_long,
  closed-rows,
  is_number,
  is-place,
  zero_number,
  known-rules,
  read-sound,
  read-as_long,
  read-rows,
}
use Rattle.printing.specs.Text.{refused_line}
use Rattle.printing.specs.Laid.{Laid, Fronted}
use Rattle.printing.proofs.Laying.{laid_none, laid-front, refused-long}
use Rattle.counter.specs.Counted.{ended, cut, whole, next, comes_to, asked_lines}
use Rattle.std.specs.Borrow.{Bor}
use Rattle.counter.specs.declared.next.Part.{Part}
use Rattle.counter.specs.declared.next.Part.TheVariants.{Ended, Cut, Whole}
use Rattle.counter.specs.Turns.{asked_room, Is, Came, Ready, Opening, Turned}
use Rattle.counter.proofs.Nexts.{ended-not_cut, ended-not_whole, cut-not_whole, same_whole, true-not_false}

-- the same bytes, said of otherwise
pub fronted_as : {P Q : List ℕ → Type 0} {out out' : List ℕ} {size : ℕ} → ((t : List ℕ) → P t → Q t) → Fronted P out out' size → Fronted Q out out' size
fronted_as {P} {Q} {out} {out'} {size} f p = record { counts = p.counts; text_is = f (take size out') p.text_is; rest_stays = p.rest_stays }

-- nothing laid
pub fronted_none : (P : List ℕ → Type 0) (out : List ℕ) → P [] → Fronted P out out 0
fronted_none P out p = laid-front P out out [] 0 (omega arith) p (laid_none out 0)

-- no bytes stand next: they have ended, or are cut
none-whole : (s : List ℕ) → (next s ≡ ended) ⊎ (next s ≡ cut) → (q rest : List ℕ) → next s ≡ whole q rest → ⊥
none-whole s (inl h) q rest e = ended-not_whole h e
none-whole s (inr h) q rest e = cut-not_whole h e

pub came_none : (s : List ℕ) (p : Part) → Came s p → ((q : Bor (List ℕ)) → p ≡ Whole q → ⊥) → (next s ≡ ended) ⊎ (next s ≡ cut)
came_none s Ended c n = inl c
came_none s Cut c n = inr c
came_none s (Whole q) c n = absurd (n q refl)

-- nothing whole stands next
pub not-whole : (s : List ℕ) (p : Part) → Came s p → ((q : Bor (List ℕ)) → p ≡ Whole q → ⊥) → (q rest : List ℕ) → next s ≡ whole q rest → ⊥
not-whole s p c n = none-whole s (came_none s p c n)

-- ---- the book

module _ (s : List ℕ) (out : List ℕ) (room : asked_room ≤ length out) (out' : List ℕ) (laid : ℕ) where
  pub open_short : (next s ≡ ended) ⊎ (next s ≡ cut) → (kind rules : ℕ) (m : Lanes) (n : ℕ) → Laid out out' 0 laid (refused_line 1 0) → Fronted (Opening s true kind rules m n) out out' laid
  open_short c kind rules m n p =
      laid-front (Opening s true kind rules m n) out out' (refused_line 1 0) laid (omega (arith, refused-long 1 0, room))
      (record {
        no_book = λ e. (refl, refl);
        cut_book = λ e. (refl, refl);
        unread = λ b rest e. absurd (none-whole s c b rest e);
        opened = λ b rest e. absurd (none-whole s c b rest e);
        ready = λ e. absurd (true-not_false e);
        rules_known = λ e. absurd (true-not_false e);
      })
      p

  module _ (book behind : List ℕ) (c : next s ≡ whole book behind) (m : Lanes) (number place kind base rules count : ℕ)
      (read : Reading book fresh_lanes m number place kind base rules count) where
    is-book : (b rest : List ℕ) → next s ≡ whole b rest → b ≡ book
    is-book b rest e = (same_whole e c).0

    pub open_unread : 0 < number → (k u : ℕ) (l : Lanes) (n : ℕ) → Laid out out' 0 laid (refused_line number place) → Fronted (Opening s true k u l n) out out' laid
    open_unread h k u l n p =
        let x = is_number book fresh_lanes m number place kind base rules count read in
        let y = is-place book fresh_lanes m number place kind base rules count read in
        laid-front (Opening s true k u l n) out out' (refused_line number place) laid (omega (arith, refused-long number place, room))
        (record {
          no_book = λ e. absurd (ended-not_whole e c);
          cut_book = λ e. absurd (cut-not_whole e c);
          unread = λ b rest e q. (refl, rw (is-book b rest e, x, y) refl);
          opened = λ b rest e z. absurd (omega (arith, x, ap (λ (t : List ℕ). (said t).verdict_of.number) (is-book b rest e)));
          ready = λ e. absurd (true-not_false e);
          rules_known = λ e. absurd (true-not_false e);
        })
        p

    pub open_done : number ≤ 0 → Fronted (Opening s false kind rules m count) out out 0
    open_done z =
        let x = zero_number book fresh_lanes m number place kind base rules count read z in
        fronted_none (Opening s false kind rules m count) out
        (record {
          no_book = λ e. absurd (ended-not_whole e c);
          cut_book = λ e. absurd (cut-not_whole e c);
          unread = λ b rest e q. absurd (omega (arith, x, ap (λ (t : List ℕ). (said t).verdict_of.number) (is-book b rest e)));
          opened = λ b rest e q. (
            refl,
            refl,
            rw (is-book b rest e) read.kind_is,
            rw (is-book b rest e) read.rules_is,
            rw (is-book b rest e) (read-rows book fresh_lanes m number place kind base rules count read z),
          );
          ready = λ _. record { sound = read-sound book fresh_lanes m number place kind base rules count read z; room = (read-as_long book fresh_lanes m number place kind base rules count read z).same_subj };
          rules_known = λ _. known-rules book fresh_lanes m number place kind base rules count read z;
        })

-- ---- a question

module _ (looks kind rules : ℕ) (known : is_rule_set rules ≡ true) (l : Lanes) (n : ℕ) (ready : Ready kind l n) (s : List ℕ) (out out' : List ℕ) (laid : ℕ) where
  pub turn_ended : next s ≡ ended → (m : Lanes) (k : ℕ) → Fronted (Turned looks kind rules (rows_of l n) s true m k) out out 0
  turn_ended c m k =
      fronted_none (Turned looks kind rules (rows_of l n) s true m k) out
      (record {
        no_more = λ e. (refl, refl);
        cut_short = λ e. absurd (ended-not_cut c e);
        no_room = λ q rest e. absurd (ended-not_whole c e);
        asked = λ q rest e. absurd (ended-not_whole c e);
        ready = λ e. absurd (true-not_false e);
      })

  pub turn_cut : next s ≡ cut → asked_room ≤ length out → (m : Lanes) (k : ℕ) → Laid out out' 0 laid (refused_line 1 0) → Fronted (Turned looks kind rules (rows_of l n) s true m k) out out' laid
  turn_cut c room m k p =
      laid-front (Turned looks kind rules (rows_of l n) s true m k) out out' (refused_line 1 0) laid (omega (arith, refused-long 1 0, room))
      (record {
        no_more = λ e. absurd (ended-not_cut e c);
        cut_short = λ e. (refl, refl);
        no_room = λ q rest e. absurd (cut-not_whole c e);
        asked = λ q rest e. absurd (cut-not_whole c e);
        ready = λ e. absurd (true-not_false e);
      })
      p

  module _ (question behind : List ℕ) (c : next s ≡ whole question behind) (m : Lanes) (number place count : ℕ) (close : Closing kind rules l n m number place count) where
    pub turn_full : 0 < number → asked_room ≤ length out → (k : ℕ) → Laid out out' 0 laid (refused_line number place) → Fronted (Turned looks kind rules (rows_of l n) s true m k) out out' laid
    turn_full h room k p =
        let v = full_is kind rules known l n ready.sound m number place count close h in
        laid-front (Turned looks kind rules (rows_of l n) s true m k) out out' (refused_line number place) laid (omega (arith, refused-long number place, room))
        (record {
          no_more = λ e. absurd (ended-not_whole e c);
          cut_short = λ e. absurd (cut-not_whole e c);
          no_room = λ q rest e closed d f. (refl, rw (number_of v, place_of v) refl);
          asked = λ q rest e closed d f. absurd (full kind rules known l n ready.sound m number place count close h closed d (omega (arith, f, ready.room)));
          ready = λ e. absurd (true-not_false e);
        })
        p

    module _ (z : number ≤ 0) where
      pub closed-ready : Ready kind m count
      closed-ready = record {
        sound = closed-sound kind rules known l n ready.sound m number place count close z;
        room = (closed-as_long kind rules known l n ready.sound m number place count close z).same_subj ∙ ready.room;
      }

      pub turn_asked : Fronted (Is (asked_lines (comes_to kind (rows_of m count) looks question))) out out' laid → Fronted (Turned looks kind rules (rows_of l n) s false m count) out out' laid
      turn_asked p =
          fronted_as (λ t w. record {
            no_more = λ e. absurd (ended-not_whole e c);
            cut_short = λ e. absurd (cut-not_whole e c);
            no_room = λ q rest e closed d f. absurd (not_full kind rules known l n ready.sound m number place count close z closed d (omega (arith, f, ready.room)));
            asked = λ q rest e closed d f.
                let same = closed-rows kind rules known l n ready.sound m number place count close z closed d (omega (arith, f, ready.room)) in
                (refl, w ∙ rw (same, (same_whole e c).0) refl, same);
            ready = λ _. closed-ready;
          }) p
