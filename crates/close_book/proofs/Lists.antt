-- The closing program, step by step: refused in reading or in closing, or listed. Assumes nothing.
use mathlib.Core.Path.{◌≡◌, refl}
use mathlib.Core.Bool.{true}
use mathlib.Core.List.{List}
use Prim.Native.Nat.{ℕ, ◌+◌, ◌*◌, ◌≤◌, ◌<◌}
use native.Mathlib.Omega.{arith}
use lib.ListN.{length}
use Rattle.ruleset.specs.RuleSet.{is_rule_set}
use Rattle.table.specs.Rows.{Row, Lanes, rows_of}
use Rattle.table.specs.Places.{RowsWithin}
use Rattle.table.specs.Sound.{Sound}
use Rattle.table.proofs.Soundness.{sound-rows_within}
use Rattle.rhodf.specs.Rules.{rules_of}
use Rattle.rhodf.specs.Closure.{ClosureOf}
use Rattle.book.specs.Reading.{reading, Reading}
use Rattle.closing.specs.Closing.{Closing}
use Rattle.trackvesper.proofs.ReadAndClosed.{
  number_of,
  place_of,
  full,
  full_is,
  not_full,
  closed-sound,
  closed-rows,
  is_number,
  is-place,
  zero_number,
  known-rules,
  read-sound,
  read-as_long,
  of_table,
}
use Rattle.printing.specs.Text.{closed_listing, refused_line}
use Rattle.printing.specs.Laid.{Laid, LaidWithin, Fronted}
use Rattle.printing.proofs.Laying.{laid-front, refused-long}
use Rattle.close_book.specs.Listed.{Listed, listing_room}

module _ (b : List ℕ) (l m : Lanes) (number place kind base rules count : ℕ) (read : Reading b l m number place kind base rules count)
    (out out' : List ℕ) (size : ℕ) (room : listing_room ≤ length out) where
  pub unread-listed : 0 < number → Laid out out' 0 size (refused_line number place) → Fronted (Listed l b) out out' size
  unread-listed h p =
      let n = is_number b l m number place kind base rules count read in
      let at_place = is-place b l m number place kind base rules count read in
      laid-front (Listed l b) out out' (refused_line number place) size (omega (arith, refused-long number place, room))
      (record {
        unread = λ q. rw (n, at_place) refl;
        no_room = λ z. absurd (omega (arith, n));
        closed = λ z. absurd (omega (arith, n));
      })
      p

  module _ (z : number ≤ 0) (m₂ : Lanes) (n₂ p₂ c₂ : ℕ) (close : Closing kind rules m count m₂ n₂ p₂ c₂) where
    unrefused : (reading b l).verdict_of.number ≡ 0
    unrefused = zero_number b l m number place kind base rules count read z

    known : is_rule_set rules ≡ true
    known = known-rules b l m number place kind base rules count read z

    sound : Sound kind m count
    sound = read-sound b l m number place kind base rules count read z

    table_of : (closed : List Row) → ClosureOf (reading b l).kind (rules_of (reading b l).rules) (reading b l).rows closed → ClosureOf kind (rules_of rules) (rows_of m count) closed
    table_of = of_table b l m number place kind base rules count read z

    long : length m.subj ≡ length l.subj
    long = (read-as_long b l m number place kind base rules count read z).same_subj

    pub full_listed : 0 < n₂ → Laid out out' 0 size (refused_line n₂ p₂) → Fronted (Listed l b) out out' size
    full_listed h p =
        let v = full_is kind rules known m count sound m₂ n₂ p₂ c₂ close h in
        laid-front (Listed l b) out out' (refused_line n₂ p₂) size (omega (arith, refused-long n₂ p₂, room))
        (record {
          unread = λ q. absurd (omega (arith, unrefused));
          no_room = λ _ closed c q. rw (number_of v, place_of v) refl;
          closed = λ _ closed c q. absurd (full kind rules known m count sound m₂ n₂ p₂ c₂ close h closed (table_of closed c) (rw long q));
        })
        p

    module _ (z₂ : n₂ ≤ 0) where
      after : Sound kind m₂ c₂
      after = closed-sound kind rules known m count sound m₂ n₂ p₂ c₂ close z₂

      -- what laying the listing wants
      pub listing-fits : RowsWithin m₂ c₂ × (70 + c₂ * 39 ≤ length out)
      listing-fits = (sound-rows_within after, omega (arith, after.within, after.long, room))

      pub closed-listed : LaidWithin out out' 0 size (closed_listing kind base (rows_of m₂ c₂)) (70 + c₂ * 39) → Fronted (Listed l b) out out' size
      closed-listed p =
          laid-front (Listed l b) out out' (closed_listing kind base (rows_of m₂ c₂)) size (omega (arith, p.within, listing-fits.1))
          (record {
            unread = λ q. absurd (omega (arith, unrefused));
            no_room = λ _ closed c q. absurd (not_full kind rules known m count sound m₂ n₂ p₂ c₂ close z₂ closed (table_of closed c) (rw long q));
            closed = λ _ closed c q.
                rw (closed-rows kind rules known m count sound m₂ n₂ p₂ c₂ close z₂ closed (table_of closed c) (rw long q), read.kind_is, read.base_is) refl;
          })
          p.laid
