-- What a done closing leaves: a sound table that is the closure of the one that came, with zeros behind it; a closed table stays, and closing
-- twice is closing once; and 12 is said exactly where the closure has more rows than the lanes. Assumes nothing.
use mathlib.Core.Path.{◌≡◌, sym, ap, ◌∙◌}
use mathlib.Core.Bool.{true}
use mathlib.Core.Logic.{◌↔◌}
use mathlib.Core.List.{List}
use Prim.Native.Nat.{ℕ, ◌≤◌, ◌<◌}
use native.Mathlib.Decide.{dec_lt}
use native.Mathlib.Omega.{arith}
use lib.ListN.{length}
use Rattle.ground.proofs.Tab.{tab-length}
use Rattle.term.specs.Refusal.{first}
use Rattle.term.specs.declared.refusal.Verdict.{Verdict}
use Rattle.term.proofs.Firsts.{never_given}
use Rattle.ruleset.specs.RuleSet.{is_rule_set}
use Rattle.annotation.specs.Kinds.{algebra}
use Rattle.table.specs.Rows.{Row, Lanes, row_at, rows_of, laid, filled, AsLong}
use Rattle.table.specs.Sound.{Sound}
use Rattle.table.proofs.Soundness.{sound-list, list_sound, sound-within, sound-as_long}
use Rattle.table.proofs.Laid.{filled-rows, zeroed-alike, filled-as_long}
use Rattle.rhodf.specs.Graph.{Graph, graph_of, Valued, Below}
use Rattle.rhodf.specs.Rules.{rules_of}
use Rattle.rhodf.specs.Closure.{Closed, ClosureOf}
use Rattle.rhodf.proofs.Exists.{closure_exists}
use Rattle.rhodf.proofs.ClosedStays.{closed-is_closure}
use Rattle.closing.specs.Checks.{close_checks}
use Rattle.closing.specs.Closing.{Closing}
use Rattle.closing.proofs.Judging.{close_not_12, passes-ready}

-- what is left: "the closure is the least closed graph at or above the input"; "rows past the count are all zero"
pub record Closes (kind rules : ℕ) (l : Lanes) (n : ℕ) (m : Lanes) (count : ℕ) : Type 0 where
  pub sound : Sound kind m count
  pub as_long : length m.subj ≡ length l.subj
  pub holds : Below (algebra kind) (graph_of (rows_of l n)) (graph_of (rows_of m count))
  pub is_closed : Closed (algebra kind) (rules_of rules) (graph_of (rows_of m count))
  pub least : (H : Graph) → Valued (algebra kind) H → Closed (algebra kind) (rules_of rules) H → Below (algebra kind) (graph_of (rows_of l n)) H
      → Below (algebra kind) (graph_of (rows_of m count)) H
  pub lanes_are : m ≡ filled (rows_of m count) l

-- number 0, count and lanes: nothing is changed but the rows past the count
pub record Stays (l : Lanes) (n : ℕ) (m : Lanes) (number count : ℕ) : Type 0 where
  pub done-again : number ≡ 0
  pub same_count : count ≡ n
  pub same_rows : rows_of m count ≡ rows_of l n
  pub lanes_are : m ≡ filled (rows_of l n) l

-- lanes filled with the closure
rows-filled : (l m : Lanes) (R : List Row) (count : ℕ) → m ≡ filled R l → count ≡ length R → rows_of m count ≡ R
rows-filled l m R count em ec = rw (em, ec) (filled-rows R l)

module _ (kind rules : ℕ) (l : Lanes) (n : ℕ) (w : Sound kind l n) (closed : List Row) (c : ClosureOf kind (rules_of rules) (rows_of l n) closed) (room : length closed ≤ length l.subj)
    (m : Lanes) (count : ℕ) (em : m ≡ filled closed l) (ec : count ≡ length closed) where
  rows-after : rows_of m count ≡ closed
  rows-after = rows-filled l m closed count em ec

  closes_by : Closes kind rules l n m count
  closes_by =
      let long : AsLong l m = rw em (filled-as_long closed l (sound-within w room)) in
      record {
        sound = list_sound w m count long (omega (arith, ec, room, long.same_subj)) (rw rows-after c.sound);
        as_long = long.same_subj;
        holds = rw rows-after c.is_least.holds;
        is_closed = rw rows-after c.is_least.is_closed;
        least = rw rows-after c.is_least.least;
        lanes_are = rw rows-after em;
      }

module _ (kind rules : ℕ) (l : Lanes) (n : ℕ) (m : Lanes) (place count : ℕ) (a : Closing kind rules l n m 0 place count) where
  -- a done closing was of a rule set and a sound table
  pub was_ready : (is_rule_set rules ≡ true) × Sound kind l n
  was_ready = go (dec_lt 0 (first (close_checks kind rules l n)).number)
    where
      go : Dec (0 < (first (close_checks kind rules l n)).number) → (is_rule_set rules ≡ true) × Sound kind l n
      go (yes h) = absurd (omega (arith, ap (λ (v : Verdict). v.number) (a.refused h).0))
      go (no h) = passes-ready kind rules l n (omega arith)

  pub was_sound : Sound kind l n
  was_sound = was_ready.1

  -- and its closure has room
  pub close_closes : Closes kind rules l n m count
  close_closes =
      let c = closure_exists kind rules (rows_of l n) (sound-list was_sound) in
      go c.0 c.1 (dec_lt (length l.subj) (length c.0))
    where
      go : (closed : List Row) → ClosureOf kind (rules_of rules) (rows_of l n) closed → Dec (length l.subj < length closed) → Closes kind rules l n m count
      go closed c (yes h) = absurd (omega (arith, ap (λ (v : Verdict). v.number) (a.no_room was_ready.0 was_sound closed c h).0))
      go closed c (no h) =
          let room : length closed ≤ length l.subj = omega arith in
          let f = a.fits was_ready.0 was_sound closed c room in
          closes_by kind rules l n was_sound closed c room m count f.1 f.2

-- a closed table stays
pub closed-table_stays : (kind rules : ℕ) (l : Lanes) (n : ℕ) (m : Lanes) (number place count : ℕ) → is_rule_set rules ≡ true → Sound kind l n → Closed (algebra kind) (rules_of rules) (graph_of (rows_of l n))
    → Closing kind rules l n m number place count → Stays l n m number count
closed-table_stays kind rules l n m number place count known s c a =
    let same : length (rows_of l n) ≡ n = tab-length n (row_at l) in
    let room : length (rows_of l n) ≤ length l.subj = omega (arith, s.within) in
    let f = a.fits known s (rows_of l n) (closed-is_closure kind (rules_of rules) (rows_of l n) (sound-list s) c) room in
    record {
      done-again = ap (λ (v : Verdict). v.number) f.0;
      same_count = f.2 ∙ same;
      same_rows = rows-filled l m (rows_of l n) count f.1 f.2;
      lanes_are = f.1;
    }

-- closing twice is closing once
pub record Unchanged (m m' : Lanes) (count number' count' : ℕ) : Type 0 where
  pub done-again : number' ≡ 0
  pub same_count : count' ≡ count
  pub same-lanes : m' ≡ m

pub close_twice_is_once : (kind rules : ℕ) (l : Lanes) (n : ℕ) (m m' : Lanes) (place count number' place' count' : ℕ)
    → Closing kind rules l n m 0 place count → Closing kind rules m count m' number' place' count' → Unchanged m m' count number' count'
close_twice_is_once kind rules l n m m' place count number' place' count' a b =
    let c = close_closes kind rules l n m place count a in
    let w = was_ready kind rules l n m place count a in
    let s = closed-table_stays kind rules m count m' number' place' count' w.0 c.sound c.is_closed b in
    let z = zeroed-alike (sound-as_long w.1 c.sound c.as_long) in
    record { done-again = s.done-again; same_count = s.same_count; same-lanes = s.lanes_are ∙ ap (laid (rows_of m count)) z ∙ sym c.lanes_are }

-- "that table has more rows than the room lent": the closure, in the table's rule set, of the sound table that came
abbrev pub NoRoomFor : ℕ → ℕ → Lanes → ℕ → Type 0
NoRoomFor kind rules l n = (is_rule_set rules ≡ true) × Sound kind l n × (closed : List Row) × ClosureOf kind (rules_of rules) (rows_of l n) closed × (length l.subj < length closed)

-- 'Closing says "no room" exactly when that table has more rows than the room lent': the table check never says 12
module _ (kind rules : ℕ) (l : Lanes) (n : ℕ) (m : Lanes) (number place count : ℕ) (a : Closing kind rules l n m number place count) where
  no_room-said : number ≡ 12 → NoRoomFor kind rules l n
  no_room-said e = checked (dec_lt 0 (first (close_checks kind rules l n)).number)
    where
      by_room : is_rule_set rules ≡ true → Sound kind l n → (closed : List Row) → ClosureOf kind (rules_of rules) (rows_of l n) closed → Dec (length l.subj < length closed) → NoRoomFor kind rules l n
      by_room k s closed c (yes h) = (k, s, closed, c, h)
      by_room k s closed c (no h) = absurd (omega (arith, ap (λ (v : Verdict). v.number) (a.fits k s closed c (omega arith)).0))

      checked : Dec (0 < (first (close_checks kind rules l n)).number) → NoRoomFor kind rules l n
      checked (yes h) =
          absurd (never_given 12 (close_checks kind rules l n) (omega arith) (close_not_12 kind rules l n) (sym (ap (λ (v : Verdict). v.number) (a.refused h).0) ∙ e))
      checked (no h) =
          let ready = passes-ready kind rules l n (omega arith) in
          let c = closure_exists kind rules (rows_of l n) (sound-list ready.1) in
          by_room ready.0 ready.1 c.0 c.1 (dec_lt (length l.subj) (length c.0))

  pub no_room-exactly : (number ≡ 12) ↔ NoRoomFor kind rules l n
  no_room-exactly = (no_room-said, λ w. ap (λ (v : Verdict). v.number) (a.no_room w.0 w.1 w.2 w.3 w.4).0)
