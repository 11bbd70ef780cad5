-- A text looked for among the entries, one after another, and the five before them. Assumes nothing.
use mathlib.Core.Path.{◌≡◌, refl, sym, ap, ◌∙◌}
use mathlib.Core.Bool.{Bool, true, false}
use mathlib.Core.List.{List, ◌∷◌}
use Prim.Native.Nat.{ℕ, ◌+◌, ◌≤◌, ◌<◌}
use native.Mathlib.Numerals.{add-one}
use native.Mathlib.Omega.{arith}
use lib.Dec.{eqb}
use lib.ListN.{length, get_or, drop, drop_of_length-le}
use lib.Seq.{slice, take-length}
use borrow.Author.Tests.{eq-eqb, ne_eqb, lt-ltb}
use Rattle.ground.proofs.Tab.{tab-length}
use Rattle.term.specs.Term.{sort_of}
use Rattle.names.specs.Names.{Entry, NameLanes, start_of, text_at_lem, entry_at, entries_of}
use Rattle.names.specs.Entering.{Listing, same_text_lem, lookup, five_number, lookup_five}
use Rattle.names.proofs.Entries.{drop-tab, text_is}
use Rattle.std.specs.Prelude.{Option, Some, None}
use Rattle.names.proofs.FiveTexts.{five_some, five_none}
use Rattle.names.proofs.Answering.{no_five_name, no_five_sort}
use Rattle.ntline.specs.declared.lines.Sort.{Sort}
use Rattle.ntline.specs.declared.lines.Sort.TheVariants.{Name, Blank, Literal}
use Rattle.ntline.specs.declared.lines.Span.{Span}
use Rattle.ntline.specs.Kinds.{sort_number}
use Rattle.ntline.specs.Grammar.{Term}
use Rattle.nttext.specs.Texts.{text_of_term, sort_of_term}
use Rattle.nttext.specs.Standing.{Stands, TermCompared}
use Rattle.ntnumber.specs.Numbering.{FiveThere, ListedThere, KnownThere}
use Rattle.ntnumber.proofs.Numbers.{stands-sort, same-flip}

-- what is left to look at
abbrev pub Left : List ℕ → ℕ → Span → NameLanes → ℕ → ℕ → Type 0
Left b end t l names i = (m : Term) → Stands b end t m → lookup (entries_of l names) (sort_of_term m) (text_of_term m) ≡ lookup (drop i (entries_of l names)) (sort_of_term m) (text_of_term m)

module _ (b : List ℕ) (end : ℕ) (t : Span) (l : NameLanes) (names : ℕ) (h : Listing l names) (i : ℕ) (left : Left b end t l names i) where
  next-entry : i < names → drop i (entries_of l names) ≡ entry_at l i ∷ drop (i + 1) (entries_of l names)
  next-entry q = rw (add-one i) (drop-tab names i (entry_at l) q)

  module _ (q : i < names) where
    pub left_other : (sort_of (get_or l.terms i 0) ≡ sort_number t.sort → ⊥) → Left b end t l names (i + 1)
    unfolding lookup
    left_other e m s =
        let n = ne_eqb (sort_of (get_or l.terms i 0)) (sort_of_term m) (λ p. e (p ∙ sym (stands-sort b end t m s))) in
        left m s ∙ ap (λ (r : List Entry). lookup r (sort_of_term m) (text_of_term m)) (next-entry q) ∙ rw n refl

    module _ (e : sort_of (get_or l.terms i 0) ≡ sort_number t.sort) (from : ℕ) (start : from ≡ start_of l.ends i) (r : Bool) (c : TermCompared b end t l.text from (get_or l.ends i 0) r) where
      same-sort : (m : Term) → Stands b end t m → eqb (sort_of (get_or l.terms i 0)) (sort_of_term m) ≡ true
      same-sort m s = eq-eqb (sort_of (get_or l.terms i 0)) (sort_of_term m) (e ∙ stands-sort b end t m s)

      same_text : (m : Term) → Stands b end t m → same_text_lem (text_at_lem l.ends l.text i) (text_of_term m) ≡ r
      same_text m s =
          ap (λ (w : List ℕ). same_text_lem w (text_of_term m)) (text_is l names h i q ∙ ap (λ (k : ℕ). slice k (get_or l.ends i 0) l.text) (sym start))
          ∙ same-flip (slice from (get_or l.ends i 0) l.text) (text_of_term m) ∙ sym (c m s)

      pub left_not : r ≡ false → Left b end t l names (i + 1)
      unfolding lookup
      left_not f m s =
          left m s ∙ ap (λ (x : List Entry). lookup x (sort_of_term m) (text_of_term m)) (next-entry q) ∙ rw (same-sort m s, same_text m s, f) refl

      pub left_here : r ≡ true → ListedThere b end t l names (Some (get_or l.terms i 0))
      unfolding lookup
      left_here f m s =
          sym (left m s ∙ ap (λ (x : List Entry). lookup x (sort_of_term m) (text_of_term m)) (next-entry q) ∙ rw (same-sort m s, same_text m s, f) refl)

  pub left-none : names ≤ i → ListedThere b end t l names None
  unfolding lookup
  left-none q m s =
      sym (left m s ∙ ap (λ (x : List Entry). lookup x (sort_of_term m) (text_of_term m)) (drop_of_length-le (entries_of l names) {i = i} (rw (tab-length names (entry_at l)) q)))

-- ---- the five first

pub name_number : (s : Sort) → sort_number s ≡ 0 → s ≡ Name
name_number Name e = refl
name_number Blank e = absurd (omega arith)
name_number Literal e = absurd (omega arith)

module _ (b : List ℕ) (end : ℕ) (t : Span) (l : NameLanes) (names : ℕ) where
  pub known-five : sort_number t.sort ≡ 0 → (five : ℕ) → FiveThere b end t (Some five) → KnownThere b end t l names (Some five)
  unfolding lookup_five
  known-five e five f m s =
      let n : sort_of_term m ≡ 0 = sym (stands-sort b end t m s) ∙ e in
      let w = five_some (text_of_term m) five (f m s) in
      rw (n, lt-ltb (five_number (text_of_term m)) 5 w.1, w.0) refl

  pub known-listed : (r : Option ℕ) → ListedThere b end t l names r → FiveThere b end t None → KnownThere b end t l names r
  known-listed r g f m s = g m s ∙ sym (no_five_name (entries_of l names) (sort_of_term m) (text_of_term m) (five_none (text_of_term m) (f m s)))

  pub known-other : (r : Option ℕ) → ListedThere b end t l names r → (sort_number t.sort ≡ 0 → ⊥) → KnownThere b end t l names r
  known-other r g q m s = g m s ∙ sym (no_five_sort (entries_of l names) (sort_of_term m) (text_of_term m) (λ e. q (stands-sort b end t m s ∙ e)))

-- ---- texts as the code compares them

pub five_compared : (five word : List ℕ) (r : Bool) → r ≡ same_text_lem word (slice 0 (length five) five) → r ≡ same_text_lem five word
five_compared five word r e = e ∙ ap (same_text_lem word) (take-length five) ∙ same-flip word five
