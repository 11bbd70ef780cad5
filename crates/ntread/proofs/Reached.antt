-- Line after line: what is reached, and where it stops. Assumes nothing.
use mathlib.Core.Path.{◌≡◌, refl, sym, ap, ◌∙◌}
use mathlib.Core.Bool.{true, cond}
use mathlib.Core.List.{List}
use Prim.Native.Nat.{ℕ, ◌+◌, ◌≤◌, ◌<◌}
use native.Mathlib.Omega.{arith}
use lib.Dec.{eqb}
use lib.ListN.{length, get_or, drop}
use borrow.Author.Tests.{eq-eqb, ne_eqb}
use Rattle.ground.specs.Lists.{tab}
use Rattle.annotation.specs.Kinds.{is_legal}
use Rattle.table.specs.Rows.{Row, Lanes, AsLong, row, row_at, rows_of}
use Rattle.table.specs.Sound.{Sound}
use Rattle.table.proofs.Laid.{as_long-self, as_long-on, filled_is}
use Rattle.table.proofs.Soundness.{sound-within}
use Rattle.utf8.specs.Texts.{seen}
use Rattle.names.specs.Names.{Entry, NameLanes, entries_of}
use Rattle.names.specs.Entering.{Listing}
use Rattle.ntline.specs.Lines.{line_of, said_by}
use Rattle.ntenter.specs.Line.{Read, Room, read_line, refused, room_of}
use Rattle.ntread.specs.Reading.{LineAt, is_eol, lines_from, read_lines}
use Rattle.ntnumber.specs.Numbering.{ListAsLong}
use Rattle.ntenter.specs.Inner.{LineTold, LineInto, LineRead}
use Rattle.ntread.specs.Inner.{LineEnd, Fresh, all_lines_lem, LinesRead, refused_done}
use Rattle.ntread.proofs.Parting.{lines_over, lines_skip, lines_line}
use Rattle.ntenter.proofs.Threes.{list_long-self, list_long-on}

-- the lines up to `at` are read into count rows and so many names, and those from there on are left
pub record Reached (kind a : ℕ) (b : List ℕ) (l m : Lanes) (n k : NameLanes) (at count names : ℕ) : Type 0 where
  pub within : at ≤ length b
  pub sound : Sound kind m count
  pub legal : is_legal kind a ≡ true
  pub as_long : AsLong l m
  pub zero : (i : ℕ) → count ≤ i → row_at m i ≡ row 0 0 0 0
  pub listing : Listing k names
  pub list_long : ListAsLong n k
  pub meaning : all_lines_lem kind a b l n ≡ read_lines kind a (room_of l n) (lines_from at (drop at b)) (entries_of k names) (rows_of m count)

same-room : (l m : Lanes) (n k : NameLanes) → AsLong l m → ListAsLong n k → room_of m k ≡ room_of l n
same-room l m n k a c = rw (a.same_subj, c.same_terms, c.same_text) refl

module _ (kind a : ℕ) (b : List ℕ) (l : Lanes) (n : NameLanes) (fresh : Fresh kind a l n) where
  pub reached-start : Reached kind a b l l n n 0 0 0
  unfolding tab
  reached-start = record {
    within = omega arith;
    sound = fresh.sound;
    legal = fresh.legal;
    as_long = as_long-self l;
    zero = λ i q. fresh.zero i;
    listing = fresh.listing;
    list_long = list_long-self n;
    meaning = refl;
  }

  module _ (m : Lanes) (k : NameLanes) (at count names : ℕ) (h : Reached kind a b l m n k at count names) where
    pub reached-into : LineInto kind a m count k names
    reached-into = record { sound = h.sound; legal = h.legal; listing = h.listing }

    -- an EOL
    pub reached-skip : (end : ℕ) → LineEnd b at end → at < length b → end ≤ at → Reached kind a b l m n k (at + 1) count names
    reached-skip end e q z =
        let here = e.from in
        let same : end ≡ at = omega arith in
        let eol : is_eol (get_or b at 0) ≡ true = rw same at (e.over (omega arith)) in
        record {
          within = omega arith;
          sound = h.sound;
          legal = h.legal;
          as_long = h.as_long;
          zero = h.zero;
          listing = h.listing;
          list_long = h.list_long;
          meaning = h.meaning ∙ ap (λ (ls : List LineAt). read_lines kind a (room_of l n) ls (entries_of k names) (rows_of m count)) (lines_skip b at q eol);
        }

    -- a line
    module _ (end : ℕ) (e : LineEnd b at end) (q : at < end) (m' : Lanes) (k' : NameLanes) (d : LineTold)
        (r : LineRead kind a (said_by (line_of (seen b at end))) m m' count k k' names d) where
      abbrev rest : List Entry → List Row → Read
      rest es rows = read_lines kind a (room_of l n) (lines_from end (drop end b)) es rows

      turn : all_lines_lem kind a b l n ≡ cond (eqb d.number 0) (rest (entries_of k' d.names) (rows_of m' d.count)) (refused d.number at)
      unfolding read_lines
      turn =
          h.meaning ∙ ap (λ (ls : List LineAt). read_lines kind a (room_of l n) ls (entries_of k names) (rows_of m count)) (lines_line b at end q e)
          ∙ ap (λ (room : Room). read_line kind a room at (said_by (line_of (seen b at end))) (entries_of k names) (rows_of m count) rest) (sym (same-room l m n k h.as_long h.list_long))
          ∙ r.meaning at rest

      pub reached-line : d.number ≤ 0 → Reached kind a b l m' n k' end d.count d.names
      reached-line z =
          let done : d.number ≡ 0 = omega arith in
          record {
            within = e.within;
            sound = r.sound done;
            legal = h.legal;
            as_long = as_long-on h.as_long r.as_long;
            zero = λ i w. r.rest done i w ∙ h.zero i (omega (arith, r.more done));
            listing = r.listing done;
            list_long = list_long-on h.list_long r.list_long;
            meaning = turn ∙ rw (eq-eqb d.number 0 done) refl;
          }

      pub reached-stop : 0 < d.number → LinesRead kind a b l m' n k' (refused_done d.number at)
      reached-stop w = record {
        as_long = as_long-on h.as_long r.as_long;
        list_long = list_long-on h.list_long r.list_long;
        meaning = turn ∙ rw (ne_eqb d.number 0 (λ z. omega arith)) refl;
        refused_is = λ z. refl;
        place_is = λ z. absurd (omega arith);
        filled_is = λ z. absurd (omega arith);
        listing = λ z. absurd (omega arith);
      }

    -- no line is left
    pub reached-end : length b ≤ at → LinesRead kind a b l m n k (record { number = 0; place = 0; count = count; names = names })
    unfolding read_lines
    reached-end z = record {
      as_long = h.as_long;
      list_long = h.list_long;
      meaning = h.meaning ∙ ap (λ (ls : List LineAt). read_lines kind a (room_of l n) ls (entries_of k names) (rows_of m count)) (lines_over b at z);
      refused_is = λ w. absurd (omega arith);
      place_is = λ w. refl;
      filled_is = λ w. filled_is l m count h.as_long (sound-within fresh.sound (let g = h.sound.within in let f = h.as_long.same_subj in omega arith)) h.zero;
      listing = λ w. h.listing;
    }
