-- The exported call, step by step: refused in reading, in closing or in writing, or written. Assumes nothing.
use mathlib.Core.Path.{◌≡◌, refl, sym, ◌∙◌}
use mathlib.Core.Bool.{true, false}
use mathlib.Core.List.{List, [], ◌∷◌}
use Prim.Native.Nat.{ℕ, ◌≤◌, ◌<◌}
use native.Mathlib.Decide.{dec_lt}
use native.Mathlib.Omega.{arith}
use lib.ListN.{length}
use lib.Dec.{ltb}
use borrow.Author.Tests.{lt-ltb, le-ltb, eq-eqb, ne_eqb}
use Rattle.term.specs.Refusal.{refuse, verdict, done, first}
use Rattle.term.proofs.Firsts.{first_passes, first_holds, first-none, first-clear}
use Rattle.ruleset.specs.RuleSet.{is_rule_set}
use Rattle.ruleset.proofs.Judged.{rule_set_passes}
use Rattle.annotation.proofs.Judged.{kind-passes}
use Rattle.table.specs.Rows.{Row, Lanes, rows_of}
use Rattle.table.specs.Sound.{Sound}
use Rattle.table.proofs.Judging.{table-numbered}
use Rattle.table.proofs.Soundness.{sound-passes}
use Rattle.rhodf.specs.Rules.{rules_of}
use Rattle.rhodf.specs.Closure.{ClosureOf}
use Rattle.book.specs.Format.{edition_for}
use Rattle.book.specs.Reading.{Read, Reading}
use Rattle.book.specs.Writing.{book_length_lem, write_checks, write_done_lem, Writing}
use Rattle.book.proofs.Heads.{length_to}
use Rattle.book.proofs.ReadsSound.{reading-sound}
use Rattle.closing.specs.Closing.{Closing}
use Rattle.trackvesper.specs.ClosedBook.{fresh_lanes, said, a_number, packed, ClosedBook}
use Rattle.trackvesper.proofs.ReadAndClosed.{
  number_of,
  place_of,
  by_room,
  full,
  full_is,
  not_full,
  closed-sound,
  closed-rows,
  closed-count,
  is_number,
  is-place,
  zero_number,
  head,
  known-rules,
  read-as_long,
  read-sound,
  of_table,
}

module _ (b out : List ℕ) (m : Lanes) (number place kind base rules count : ℕ) (read : Reading b fresh_lanes m number place kind base rules count) where
  abbrev what : Read
  what = said b

  number_is : number ≡ what.verdict_of.number
  number_is = is_number b fresh_lanes m number place kind base rules count read

  place_is : place ≡ what.verdict_of.place
  place_is = is-place b fresh_lanes m number place kind base rules count read

  pub place-small : place < a_number
  place-small = omega (arith, (reading-sound b fresh_lanes).placed, place_is)

  pub export_unread : 0 < number → ClosedBook b out out (packed number place)
  export_unread h = record {
    unread = λ q. (rw (number_is, place_is) refl, refl);
    no_room = λ z. absurd (omega (arith, number_is));
    no_space = λ z. absurd (omega (arith, number_is));
    written = λ z. absurd (omega (arith, number_is));
  }

  module _ (z : number ≤ 0) where
    unrefused : what.verdict_of.number ≡ 0
    unrefused = zero_number b fresh_lanes m number place kind base rules count read z

    known : is_rule_set rules ≡ true
    known = known-rules b fresh_lanes m number place kind base rules count read z

    sound : Sound kind m count
    sound = read-sound b fresh_lanes m number place kind base rules count read z

    -- the closure of what the book says is that of the table read, and has the same room
    table_of : (closed : List Row) → ClosureOf what.kind (rules_of what.rules) what.rows closed → ClosureOf kind (rules_of rules) (rows_of m count) closed
    table_of = of_table b fresh_lanes m number place kind base rules count read z

    long : length m.subj ≡ 1024
    long = (read-as_long b fresh_lanes m number place kind base rules count read z).same_subj

    module _ (m₂ : Lanes) (n₂ p₂ c₂ : ℕ) (close : Closing kind rules m count m₂ n₂ p₂ c₂) where
      pub close_place : p₂ < a_number
      close_place = by_room kind rules known m count sound m₂ n₂ p₂ c₂ close
          (λ closed c q. omega (arith, place_of (close.fits known sound closed c q).0))
          (λ closed c q. omega (arith, place_of (close.no_room known sound closed c q).0))

      module _ (h : 0 < n₂) where
        is-full : verdict n₂ p₂ ≡ verdict 12 0
        is-full = full_is kind rules known m count sound m₂ n₂ p₂ c₂ close h

        no_fit : (closed : List Row) → ClosureOf what.kind (rules_of what.rules) what.rows closed → length closed ≤ 1024 → ⊥
        no_fit closed c q = full kind rules known m count sound m₂ n₂ p₂ c₂ close h closed (table_of closed c) (rw long q)

        pub export_full : ClosedBook b out out (packed n₂ p₂)
        export_full = record {
          unread = λ q. absurd (omega (arith, unrefused));
          no_room = λ _ closed c q. (rw (number_of is-full, place_of is-full) refl, refl);
          no_space = λ _ closed c q. absurd (no_fit closed c q);
          written = λ _ closed c q. absurd (no_fit closed c q);
        }

      module _ (z₂ : n₂ ≤ 0) where
        no_full : (closed : List Row) → ClosureOf what.kind (rules_of what.rules) what.rows closed → 1024 < length closed → ⊥
        no_full closed c q = not_full kind rules known m count sound m₂ n₂ p₂ c₂ close z₂ closed (table_of closed c) (rw long q)

        few : c₂ ≤ 1024
        few = by_room kind rules known m count sound m₂ n₂ p₂ c₂ close
            (λ closed c q. omega (arith, closed-count kind rules known m count sound m₂ n₂ p₂ c₂ close z₂ closed c q, long))
            (λ closed c q. absurd (not_full kind rules known m count sound m₂ n₂ p₂ c₂ close z₂ closed c q))

        module _ (closed : List Row) (c : ClosureOf what.kind (rules_of what.rules) what.rows closed) (q : length closed ≤ 1024) where
          rows_are : rows_of m₂ c₂ ≡ closed
          rows_are = closed-rows kind rules known m count sound m₂ n₂ p₂ c₂ close z₂ closed (table_of closed c) (rw long q)

          count_is : c₂ ≡ length closed
          count_is = closed-count kind rules known m count sound m₂ n₂ p₂ c₂ close z₂ closed (table_of closed c) (rw long q)

        -- the writer's checks pass, all but the last
        to_space : first (write_checks kind base rules m₂ c₂ (length out)) ≡ first (refuse (ltb (length out) (book_length_lem rules c₂)) 12 0 ∷ [])
        to_space =
            let s = closed-sound kind rules known m count sound m₂ n₂ p₂ c₂ close z₂ in
            kind-passes kind 0 _ s.kind_known
            ∙ first_passes _ 5 0 _ (rw (read.kind_is, read.base_is, (head b fresh_lanes m number place kind base rules count read z).year) refl)
            ∙ rule_set_passes rules 0 _ known
            ∙ first-clear _ _ (table-numbered kind m₂ c₂) (number_of (sound-passes kind m₂ c₂ s))

        too_short : length out < book_length_lem rules c₂ → first (write_checks kind base rules m₂ c₂ (length out)) ≡ verdict 12 0
        too_short h = to_space ∙ first_holds _ 12 0 [] (lt-ltb (length out) (book_length_lem rules c₂) h)

        long-enough : book_length_lem rules c₂ ≤ length out → first (write_checks kind base rules m₂ c₂ (length out)) ≡ done
        long-enough h = to_space ∙ first_passes _ 12 0 [] (le-ltb (length out) (book_length_lem rules c₂) h) ∙ first-none

        module _ (out' : List ℕ) (n₃ p₃ size : ℕ) (write : Writing kind base rules m₂ c₂ out out' n₃ p₃ size) where
          is-write : verdict n₃ p₃ ≡ first (write_checks kind base rules m₂ c₂ (length out))
          is-write = write.verdict_is

          -- refused: then it is for want of space
          pub write_place : p₃ < a_number
          write_place = pick (dec_lt (length out) (book_length_lem rules c₂))
            where
              pick : Dec (length out < book_length_lem rules c₂) → p₃ < a_number
              pick (yes h) = omega (arith, place_of (is-write ∙ too_short h))
              pick (no h) = omega (arith, place_of (is-write ∙ long-enough (omega arith)))

          pub export_short : 0 < n₃ → out' ≡ out → ClosedBook b out out' (packed n₃ p₃)
          export_short h same = record {
            unread = λ q. absurd (omega (arith, unrefused));
            no_room = λ _ closed c q. absurd (no_full closed c q);
            no_space = λ _ closed c q w.
                let v = is-write ∙ too_short (rw (count_is closed c q, read.rules_is) w) in
                (rw (number_of v, place_of v) refl, same);
            written = λ _ closed c q w. absurd (omega (arith, number_of (is-write ∙ long-enough (rw (count_is closed c q, read.rules_is) w))));
          }

          module _ (z₃ : n₃ ≤ 0) where
            write_clear : write_done_lem kind base rules m₂ c₂ (length out) ≡ true
            write_clear = eq-eqb _ 0 (sym (number_of is-write) ∙ omega arith)

            is-size : size ≡ book_length_lem rules c₂
            is-size = write.length_is ∙ rw write_clear refl

            pub size_small : size < a_number
            size_small = omega (arith, is-size, few, length_to (edition_for rules))

            pub export_written : ClosedBook b out out' (packed 0 size)
            export_written = record {
              unread = λ q. absurd (omega (arith, unrefused));
              no_room = λ _ closed c q. absurd (no_full closed c q);
              no_space = λ _ closed c q w. absurd (omega (arith, number_of (is-write ∙ too_short (rw (count_is closed c q, read.rules_is) w))));
              written = λ _ closed c q w. (
                rw (is-size, count_is closed c q, read.rules_is) refl,
                write.bytes_are
                    ∙ rw write_clear
                    (rw (rows_are closed c q, count_is closed c q, read.kind_is, read.base_is, read.rules_is) refl),
              );
            }

          pub same_out : 0 < n₃ → out' ≡ out
          same_out h =
              let t : write_done_lem kind base rules m₂ c₂ (length out) ≡ false = ne_eqb (first (write_checks kind base rules m₂ c₂ (length out))).number 0 (λ e. omega (arith, number_of is-write)) in
              write.bytes_are ∙ rw t refl
