-- "A table written as a book reads back, given the room, to the same rows"; and a book's fields may stand in any order. Assumes nothing.
use mathlib.Core.Path.{◌≡◌, refl, sym, ap, ◌∙◌}
use mathlib.Core.Bool.{Bool, true, false, cond}
use mathlib.Core.List.{List, [], ◌++◌}
use Prim.Native.Nat.{ℕ, ◌≤◌, ◌<◌}
use native.Mathlib.Omega.{arith}
use lib.ListN.{length, take, drop, length-append}
use lib.Seq.{take_at}
use borrow.Author.Tests.{le-ltb}
use Rattle.ground.proofs.Tab.{tab-length}
use Rattle.term.specs.Refusal.{done, first}
use Rattle.term.specs.declared.refusal.Verdict.{Verdict}
use Rattle.term.proofs.Firsts.{first_passes, first-none}
use Rattle.ruleset.specs.RuleSet.{is_rule_set}
use Rattle.annotation.specs.Kinds.{algebra, is_kind}
use Rattle.table.specs.Rows.{Row, Lanes, row_at, rows_of, add_all, filled}
use Rattle.table.specs.Checks.{is_unfit}
use Rattle.table.specs.Sound.{AllLegal, SoundRows, Sound}
use Rattle.table.proofs.Soundness.{sound-list}
use Rattle.table.proofs.Many.{Perm, any_order, add_all_ascending}
use Rattle.table.proofs.Laid.{laid-rows}
use Rattle.book.specs.Format.{is_base, edition_for, head_bytes, fields_bytes, book_bytes}
use Rattle.book.specs.Reading.{Read, read_as, read_book, longest_book, lend_checks, reading, Reading}
use Rattle.book.specs.Writing.{book_length_lem, write_checks, write_done_lem, Writing}
use Rattle.book.proofs.Heads.{length_to}
use Rattle.book.proofs.Writes.{length-head, length_fields, write_sound, write_year, write_rules}
use Rattle.book.proofs.RoundTrip.{book_reads}
use Rattle.book.proofs.ReadsSound.{no_rows}

-- the fields of a book in any order read to the same
pub order-is_free : (kind base rules room : ℕ) → is_kind kind ≡ true → is_base kind base ≡ true → is_rule_set rules ≡ true → base < 65536
    → (fs gs : List Row) → Perm fs gs → AllLegal kind fs → AllLegal kind gs → length (add_all (algebra kind) fs []) ≤ room
    → read_book (book_bytes kind base rules fs) room ≡ read_book (book_bytes kind base rules gs) room
order-is_free kind base rules room known year set small fs gs p legal legal' fits =
    let same = any_order kind p [] legal (no_rows kind) in
    book_reads kind base rules known year set small fs room legal fits
    ∙ ap (read_as kind base rules) same
    ∙ sym (book_reads kind base rules known year set small gs room legal' (rw (← same) fits))

-- what reading gives back of a written table
pub record ReadBack (l : Lanes) (n kind base rules : ℕ) (m : Lanes) (number place kind' base' rules' count : ℕ) : Type 0 where
  pub is_done : number ≡ 0
  pub same_kind : kind' ≡ kind
  pub same_base : base' ≡ base
  pub same-rules : rules' ≡ rules
  pub same_count : count ≡ n
  pub same_rows : rows_of m count ≡ rows_of l n

module _ (kind base rules : ℕ) (l : Lanes) (n : ℕ) (out out' : List ℕ) (place size : ℕ) (small : base < 65536)
    (wrote : Writing kind base rules l n out out' 0 place size) where
  number-zero : (first (write_checks kind base rules l n (length out))).number ≡ 0
  number-zero = ap (λ (v : Verdict). v.number) (sym wrote.verdict_is)

  wrote_done : write_done_lem kind base rules l n (length out) ≡ true
  wrote_done = rw number-zero refl

  sound : Sound kind l n
  sound = write_sound kind base rules l n out number-zero

  year : is_base kind base ≡ true
  year = write_year kind base rules l n out number-zero

  set : is_rule_set rules ≡ true
  set = write_rules kind base rules l n out number-zero

  rows-sound : SoundRows kind (rows_of l n)
  rows-sound = sound-list sound

  -- the bytes written are the book
  pub the_book : take size out' ≡ book_bytes kind base rules (rows_of l n)
  the_book =
      let e : size ≡ book_length_lem rules n = wrote.length_is ∙ rw wrote_done refl in
      let o : out' ≡ book_bytes kind base rules (rows_of l n) ++ drop (book_length_lem rules n) out = wrote.bytes_are ∙ rw wrote_done refl in
      let long : length (book_bytes kind base rules (rows_of l n)) ≡ book_length_lem rules n
      = length-append (head_bytes kind base rules) (fields_bytes (rows_of l n)) ∙ rw (length-head kind base rules, length_fields n (row_at l)) refl in
      rw (e, o) (take_at (book_bytes kind base rules (rows_of l n)) (drop (book_length_lem rules n) out) (book_length_lem rules n) long)

  book_short : length (take size out') ≤ longest_book
  book_short =
      let s = sound in
      rw the_book
      (omega (arith, length-append (head_bytes kind base rules) (fields_bytes (rows_of l n)), length-head kind base rules, length_to (edition_for rules), length_fields n (row_at l), s.within, s.long))

  module _ (k m : Lanes) (fit : is_unfit k ≡ false) (room : n ≤ length k.subj) (number place' kind' base' rules' count : ℕ)
      (read : Reading (take size out') k m number place' kind' base' rules' count) where
    lent : first (lend_checks (take size out') k) ≡ done
    lent = first_passes (is_unfit k) 11 0 _ fit ∙ first_passes _ 13 0 [] (le-ltb longest_book (length (take size out')) book_short) ∙ first-none

    reads : reading (take size out') k ≡ read_as kind base rules (rows_of l n)
    reads =
        let all : add_all (algebra kind) (rows_of l n) [] ≡ rows_of l n = add_all_ascending (algebra kind) (rows_of l n) rows-sound.ascending in
        rw lent
        (rw the_book
        (book_reads kind base rules sound.kind_known year set small (rows_of l n) (length k.subj) rows-sound.legal
        (rw (all, tab-length n (row_at l)) room)
        ∙ ap (read_as kind base rules) all))

    same_count : count ≡ n
    same_count = read.count_is ∙ ap (λ (r : Read). length r.rows) reads ∙ tab-length n (row_at l)

    lanes-read : m ≡ filled (rows_of l n) k
    lanes-read =
        let t : cond true (filled (reading (take size out') k).rows k) k ≡ filled (rows_of l n) k = ap (λ (r : Read). filled r.rows k) reads in
        read.lanes_are ∙ ap (λ (v : Verdict). cond (is_zero v) (filled (reading (take size out') k).rows k) k) lent ∙ t
      where
        is_zero : Verdict → Bool
        is_zero v = lib.Dec.eqb v.number 0

    -- "A table written as a book reads back, given the room, to the same rows."
    pub reads_back : ReadBack l n kind base rules m number place' kind' base' rules' count
    reads_back = record {
      is_done = ap (λ (v : Verdict). v.number) (read.verdict_is ∙ ap (λ (r : Read). r.verdict_of) reads);
      same_kind = read.kind_is ∙ ap (λ (r : Read). r.kind) reads;
      same_base = read.base_is ∙ ap (λ (r : Read). r.base) reads;
      same-rules = read.rules_is ∙ ap (λ (r : Read). r.rules) reads;
      same_count = same_count;
      same_rows =
          rw (same_count, lanes-read)
          (ap (λ (i : ℕ). rows_of (filled (rows_of l n) k) i) (sym (tab-length n (row_at l))) ∙ laid-rows (rows_of l n) _ _ _ _);
    }
