-- Three terms numbered one after another, and the triple put: what a line leaves. Assumes nothing.
use mathlib.Core.Path.{◌≡◌, refl, sym, ap, ◌∙◌}
use mathlib.Core.Bool.{Bool, true, false, cond, false≢true}
use mathlib.Core.List.{List}
use Prim.Native.Nat.{ℕ, ◌≤◌}
use native.Mathlib.Omega.{arith}
use lib.ListN.{length}
use borrow.Author.Tests.{eq-eqb}
use Rattle.term.specs.Term.{sort_of}
use Rattle.term.proofs.Sorts.{sort-legal}
use Rattle.table.specs.Rows.{Row, Lanes, row, rows_of}
use Rattle.table.specs.Putting.{PutInto, Put}
use Rattle.table.proofs.Laid.{as_long-self}
use Rattle.names.specs.Names.{Entry, NameLanes, entries_of}
use Rattle.names.specs.Entering.{Entered, Listed, New, Full, entered_by, entries_after, count_after}
use Rattle.ntline.specs.Grammar.{Said, Term}
use Rattle.ntline.specs.Lines.{Heard}
use Rattle.nttext.specs.Texts.{text_of_term, sort_of_term}
use Rattle.ntenter.specs.Line.{Read, refused, when_entered, enter_term, add_triple, room_of}
use Rattle.ntnumber.specs.Numbering.{Told, numbered_of, ListAsLong, Numbering}
use Rattle.ntenter.specs.Inner.{room_in, ThreeTold, no_three, enter_three, ThreeNumbered, LineInto, LineRead}

pub list_long-self : (l : NameLanes) → ListAsLong l l
list_long-self l = record { same_terms = refl; same_ends = refl; same_text = refl }

pub list_long-on : {k l m : NameLanes} → ListAsLong k l → ListAsLong l m → ListAsLong k m
list_long-on a c = record { same_terms = c.same_terms ∙ a.same_terms; same_ends = c.same_ends ∙ a.same_ends; same_text = c.same_text ∙ a.same_text }

-- a numbered term, whatever is to come next
numbered-means : (l : NameLanes) (names : ℕ) (m : NameLanes) (t : Term) (r : Told) → Numbering l names m t r → (rows place : ℕ) (next : ℕ → List Entry → Read)
    → enter_term (room_in rows l) place (entries_of l names) t next ≡ cond r.full (refused 27 place) (next r.number (entries_of m r.names))
numbered-means l names m t r g rows place next =
    ap (λ (x : Entered). when_entered place (entries_of l names) (text_of_term t) x next) (sym g.answer_is) ∙ rw g.number_is (means g.answer g.entries_are)
  where
    means : (e : Entered) → entries_of m (count_after e names) ≡ entries_after e (entries_of l names) (text_of_term t)
        → when_entered place (entries_of l names) (text_of_term t) e next ≡ cond (numbered_of e names).full (refused 27 place) (next (numbered_of e names).number (entries_of m (numbered_of e names).names))
    means (Listed n) w = ap (next n) (sym w)
    means (New n) w = ap (next n) (sym w)
    means Full w = refl

-- the same room, by whatever lanes it is told
numbered-in : (l : NameLanes) (names : ℕ) (m : NameLanes) (t : Term) (r : Told) → Numbering l names m t r → (k : NameLanes) → ListAsLong k l
    → (rows place : ℕ) (next : ℕ → List Entry → Read)
    → enter_term (room_in rows k) place (entries_of l names) t next ≡ cond r.full (refused 27 place) (next r.number (entries_of m r.names))
numbered-in l names m t r g k long rows place next =
    ap (λ (x : ℕ). when_entered place (entries_of l names) (text_of_term t) (entered_by x (length k.text) (entries_of l names) (sort_of_term t) (text_of_term t)) next) (sym long.same_terms)
    ∙ ap (λ (x : ℕ). when_entered place (entries_of l names) (text_of_term t) (entered_by (length l.terms) x (entries_of l names) (sort_of_term t) (text_of_term t)) next) (sym long.same_text)
    ∙ numbered-means l names m t r g rows place next

not_full : (t : Bool) → t ≡ true → {A : Type 0} → t ≡ false → A
not_full t e f = absurd (false≢true (sym f ∙ e))

module _ (l : NameLanes) (names : ℕ) (s p o : Term) (l₁ : NameLanes) (x : Told) (X : Numbering l names l₁ s x) where
  abbrev behind-subject : ℕ → ℕ → (ℕ → ℕ → ℕ → List Entry → Read) → ℕ → List Entry → Read
  behind-subject rows place next i es₁ =
      enter_term (room_in rows l) place es₁ p (λ j es₂. enter_term (room_in rows l) place es₂ o (λ n es₃. next i j n es₃))

  pub three-first : x.full ≡ true → ThreeNumbered l names l₁ s p o (no_three x.names)
  three-first e = record {
    as_long = X.as_long;
    listing = not_full true refl;
    subject = not_full true refl;
    predicate = not_full true refl;
    object = not_full true refl;
    meaning = λ rows place next. numbered-means l names l₁ s x X rows place (behind-subject rows place next) ∙ rw e refl;
  }

  module _ (e : x.full ≡ false) (l₂ : NameLanes) (y : Told) (Y : Numbering l₁ x.names l₂ p y) where
    abbrev behind-predicate : ℕ → ℕ → (ℕ → ℕ → ℕ → List Entry → Read) → ℕ → List Entry → Read
    behind-predicate rows place next j es₂ = enter_term (room_in rows l) place es₂ o (λ n es₃. next x.number j n es₃)

    to-predicate : (rows place : ℕ) (next : ℕ → ℕ → ℕ → List Entry → Read) → enter_three (room_in rows l) place (entries_of l names) s p o next
        ≡ cond y.full (refused 27 place) (enter_term (room_in rows l) place (entries_of l₂ y.names) o (λ n es₃. next x.number y.number n es₃))
    to-predicate rows place next =
        numbered-means l names l₁ s x X rows place (behind-subject rows place next)
        ∙ rw e (numbered-in l₁ x.names l₂ p y Y l X.as_long rows place (behind-predicate rows place next))

    pub three-second : y.full ≡ true → ThreeNumbered l names l₂ s p o (no_three y.names)
    three-second f = record {
      as_long = list_long-on X.as_long Y.as_long;
      listing = not_full true refl;
      subject = not_full true refl;
      predicate = not_full true refl;
      object = not_full true refl;
      meaning = λ rows place next. to-predicate rows place next ∙ rw f refl;
    }

    module _ (f : y.full ≡ false) (l₃ : NameLanes) (z : Told) (Z : Numbering l₂ y.names l₃ o z) where
      long : ListAsLong l l₃
      long = list_long-on (list_long-on X.as_long Y.as_long) Z.as_long

      to-object : (rows place : ℕ) (next : ℕ → ℕ → ℕ → List Entry → Read)
          → enter_three (room_in rows l) place (entries_of l names) s p o next ≡ cond z.full (refused 27 place) (next x.number y.number z.number (entries_of l₃ z.names))
      to-object rows place next =
          to-predicate rows place next ∙ rw f (numbered-in l₂ y.names l₃ o z Z l (list_long-on X.as_long Y.as_long) rows place (λ n es₃. next x.number y.number n es₃))

      pub three-third : z.full ≡ true → ThreeNumbered l names l₃ s p o (no_three z.names)
      three-third g = record {
        as_long = long;
        listing = not_full true refl;
        subject = not_full true refl;
        predicate = not_full true refl;
        object = not_full true refl;
        meaning = λ rows place next. to-object rows place next ∙ rw g refl;
      }

      pub three_all : ThreeNumbered l names l₃ s p o (record { full = z.full; s = x.number; p = y.number; o = z.number; names = z.names })
      three_all = record {
        as_long = long;
        listing = λ q. Z.listing;
        subject = λ q. X.sort_is e;
        predicate = λ q. Y.sort_is f;
        object = λ q. Z.sort_is q;
        meaning = to-object;
      }

-- ---- and put

module _ (kind a : ℕ) (l : Lanes) (count : ℕ) (n : NameLanes) (names : ℕ) (into : LineInto kind a l count n names) (s p o : Term)
    (k : NameLanes) (t : ThreeTold) (T : ThreeNumbered n names k s p o t) where
  abbrev heard : Heard
  heard = Heard.heard (Said.says s p o)

  abbrev put_next : ℕ → (List Entry → List Row → Read) → ℕ → ℕ → ℕ → List Entry → Read
  put_next place next i j m es₃ = add_triple kind a (room_of l n) place i j m (rows_of l count) (λ more. next es₃ more)

  pub triple-unnamed : t.full ≡ true → LineRead kind a (Heard.heard (Said.says s p o)) l l count n k names (record { number = 27; count = count; names = t.names })
  triple-unnamed e = record {
    as_long = as_long-self l;
    list_long = T.as_long;
    sound = λ z. absurd (omega arith);
    more = λ z. absurd (omega arith);
    rest = λ z. absurd (omega arith);
    listing = λ z. absurd (omega arith);
    meaning = λ place next. T.meaning (length l.subj) place (put_next place next) ∙ rw e refl;
  }

  module _ (e : t.full ≡ false) where
    pub triple-ready : sort_of_term s ≤ 2 → sort_of_term p ≡ 0 → sort_of_term o ≤ 2 → PutInto kind (row t.s t.p t.o a) l count
    triple-ready hs hp ho = record {
      sound = into.sound;
      legal = record {
        subject = sort-legal t.s (rw (T.subject e) hs);
        predicate = eq-eqb (sort_of t.p) 0 (T.predicate e ∙ hp);
        object = sort-legal t.o (rw (T.object e) ho);
        annotation = into.legal;
      };
    }

    module _ (m : Lanes) (full changed : Bool) (n' : ℕ) (P : Put kind (row t.s t.p t.o a) l count m full changed n') where
      to-put : (place : ℕ) (next : List Entry → List Row → Read)
          → enter_three (room_of l n) place (entries_of n names) s p o (put_next place next) ≡ put_next place next t.s t.p t.o (entries_of k t.names)
      to-put place next = T.meaning (length l.subj) place (put_next place next) ∙ rw e refl

      pub triple-full : full ≡ true → LineRead kind a (Heard.heard (Said.says s p o)) l m count n k names (record { number = 12; count = n'; names = t.names })
      triple-full f = record {
        as_long = P.as_long;
        list_long = T.as_long;
        sound = λ z. absurd (omega arith);
        more = λ z. absurd (omega arith);
        rest = λ z. absurd (omega arith);
        listing = λ z. absurd (omega arith);
        meaning = λ place next. to-put place next ∙ rw (← P.full_is, f) refl;
      }

      pub triple-put : full ≡ false → LineRead kind a (Heard.heard (Said.says s p o)) l m count n k names (record { number = 0; count = n'; names = t.names })
      triple-put f = record {
        as_long = P.as_long;
        list_long = T.as_long;
        sound = λ z. P.sound;
        more = λ z. P.more;
        rest = λ z. P.rest;
        listing = λ z. T.listing e;
        meaning = λ place next. to-put place next ∙ rw (← P.full_is, f) (ap (next (entries_of k t.names)) (sym (P.rows_are f)));
      }
