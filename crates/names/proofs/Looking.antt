-- What the loop over numbers finds among entries, entry by entry; how many are of a sort at most. Assumes nothing.
use mathlib.Core.Path.{◌≡◌, refl, sym, ap, ◌∙◌}
use mathlib.Core.Bool.{Bool, true, false, cond}
use mathlib.Core.List.{List, [], ◌∷◌}
use Prim.Native.Nat.{ℕ, zero, suc, ◌+◌, ◌≤◌, ◌<◌}
use native.Mathlib.Numerals.{add-one}
use native.Mathlib.Decide.{dec_lt}
use native.Mathlib.Omega.{arith}
use lib.ListN.{length, get_or, drop, drop_of_length-le}
use borrow.Author.Tests.{eq-eqb, ne_eqb}
use Rattle.ground.proofs.Tab.{tab-length}
use Rattle.names.specs.Names.{Entry, NameLanes, text_at_lem, entry_at, entries_of, text_in}
use Rattle.names.specs.Entering.{is_of, count_of}
use Rattle.names.specs.Finding.{NotBefore, FirstWith}
use Rattle.names.proofs.Entries.{drop-tab}

all_past : (l : NameLanes) (names i : ℕ) → names ≤ i → drop i (entries_of l names) ≡ []
all_past l names i h = drop_of_length-le (entries_of l names) {i = i} (rw (tab-length names (entry_at l)) h)

next-entry : (l : NameLanes) (names i : ℕ) → i < names → drop i (entries_of l names) ≡ entry_at l i ∷ drop (i + 1) (entries_of l names)
next-entry l names i h = rw (add-one i) (drop-tab names i (entry_at l) h)

-- ---- by number

module _ (l : NameLanes) (names n i : ℕ) where
  text-here : i < names → get_or l.terms i 0 ≡ n → text_in (drop i (entries_of l names)) n ≡ text_at_lem l.ends l.text i
  unfolding text_in
  text-here h e = ap (λ (es : List Entry). text_in es n) (next-entry l names i h) ∙ rw (eq-eqb (get_or l.terms i 0) n e) refl

  text-not_here : i < names → (get_or l.terms i 0 ≡ n → ⊥) → text_in (drop i (entries_of l names)) n ≡ text_in (drop (i + 1) (entries_of l names)) n
  unfolding text_in
  text-not_here h e = ap (λ (es : List Entry). text_in es n) (next-entry l names i h) ∙ rw (ne_eqb (get_or l.terms i 0) n e) refl

  text-nowhere : names ≤ i → text_in (drop i (entries_of l names)) n ≡ []
  unfolding text_in
  text-nowhere h = ap (λ (es : List Entry). text_in es n) (all_past l names i h)

-- entries that have another number are passed
text-passed : (l : NameLanes) (names n from : ℕ) → NotBefore l.terms names from n → text_in (entries_of l names) n ≡ text_in (drop from (entries_of l names)) n
text-passed l names n zero h = refl
text-passed l names n (suc from) h = text-passed l names n from (λ k p q. h k p (omega arith)) ∙ step (dec_lt from names)
  where
    step : Dec (from < names) → text_in (drop from (entries_of l names)) n ≡ text_in (drop (suc from) (entries_of l names)) n
    step (yes p) = text-not_here l names n from p (h from p (omega arith)) ∙ ap (λ (k : ℕ). text_in (drop k (entries_of l names)) n) (add-one from)
    step (no p) = text-nowhere l names n from (omega arith) ∙ sym (text-nowhere l names n (suc from) (omega arith))

-- the text of the first entry that has a number, and no bytes where none has it
module _ (l : NameLanes) (names n i : ℕ) (first : FirstWith l.terms names n i) where
  pub first-text : i < names → text_in (entries_of l names) n ≡ text_at_lem l.ends l.text i
  first-text h = text-passed l names n i first.passed ∙ text-here l names n i h (first.has h)

  pub first-none : names ≤ i → text_in (entries_of l names) n ≡ []
  first-none h = text-passed l names n i first.passed ∙ text-nowhere l names n i h

pub count-few : (sort : ℕ) (es : List Entry) → count_of sort es ≤ length es
unfolding count_of
count-few sort [] = omega arith
count-few sort (e ∷ es) = go (is_of sort e) (count-few sort es)
  where
    go : (t : Bool) → count_of sort es ≤ length es → cond t 1 0 + count_of sort es ≤ suc (length es)
    go true k = omega arith
    go false k = omega arith
