-- The entries by hash follow the list. Assumes nothing.
use mathlib.Core.Path.{◌≡◌, refl, sym, ap, ◌∙◌}
use mathlib.Core.List.{List, [], ◌∷◌, ◌++◌}
use Prim.Native.Nat.{ℕ, ◌+◌, ◌<◌}
use native.Mathlib.Omega.{arith}
use Rattle.std.specs.Prelude.{Option, Some, None}
use lib.ListN.{length, get_or, set, take, drop}
use lib.Seq.{slice}
use Rattle.utf8.proofs.Seeing.{drop-take}
use Rattle.ground.specs.Lists.{tab}
use Rattle.ground.proofs.Tab.{tab-length}
use Rattle.names.specs.Names.{Entry, entry, NameLanes, start_of, entry_at, entries_of}
use Rattle.names.specs.Entering.{Entered, Listed, New, Full, Lookup}
use Rattle.names.specs.Finding.{Lying}
use Rattle.names.specs.Hashed.{buckets, hash_of, Hashed, lookup_is}
use Rattle.names.proofs.Hashing.{hashed_more}
use Rattle.ntnumber.specs.Numbering.{Told, told, found_number, numbered_of, LyingAs, HashEntered}

pub hashed_as : (es fs : List Entry) (heads next heads' next' : List ℕ) → fs ≡ es → heads' ≡ heads → next' ≡ next → Hashed es heads next → Hashed fs heads' next'
hashed_as es fs heads next heads' next' e f g h = rw (e, f, g) h

pub hashed_none : (k : NameLanes) (heads next : List ℕ) → Hashed [] heads next → Hashed (entries_of k 0) heads next
unfolding tab
hashed_none k heads next h = h

-- nothing entered, or one entry and its hash
pub hash_left : (heads next : List ℕ) (names h : ℕ) (r : Told) → r.names ≡ names → HashEntered heads next heads next names h r
hash_left heads next names h r e = record { entered = λ f. absurd (omega arith); left = λ f. (refl, refl) }

pub hash_entered : (heads next heads' next' : List ℕ) (names h : ℕ) (r : Told) → r.names ≡ names + 1 → heads' ≡ set heads h (names + 1) → next' ≡ set next names (get_or heads h 0)
    → HashEntered heads next heads' next' names h r
hash_entered heads next heads' next' names h r e f g = record { entered = λ x. (f, g); left = λ x. absurd (omega arith) }

-- a term that is only looked for leaves the list as it was
pub hashed_found : (k : NameLanes) (names : ℕ) (x : Lookup) (heads next : List ℕ) → Hashed (entries_of k names) heads next → Hashed (entries_of k (found_number x names).names) heads next
hashed_found k names (Lookup.number n) heads next h = h
hashed_found k names Lookup.none heads next h = h

-- what a text that was only looked for answers
pub found_told : (names : ℕ) (o : Option ℕ) → found_number (lookup_is o) names ≡ told names o
found_told names (Some n) = refl
found_told names None = refl

pub told-names : (names : ℕ) (o : Option ℕ) → (told names o).names ≡ names
told-names names (Some n) = refl
told-names names None = refl

pub new_low : (k m : NameLanes) (names n size v : ℕ) → Lying k m names n size (New v) → names < 512
new_low k m names n size v z =
    let g = z.listing.room in
    let w = z.listing.few in
    omega arith

module _ (k m : NameLanes) (names n size : ℕ) (r : Told) (heads next heads' next' : List ℕ) (h : ℕ) (a : LyingAs k m names n size r) (u : HashEntered heads next heads' next' names h r)
    (s : Hashed (entries_of k names) heads next) (from : ℕ) (start : from ≡ start_of k.ends names)
    (is : h ≡ hash_of (take size (drop from k.text))) (low : h < buckets) where
  abbrev word : List ℕ
  word = slice (start_of k.ends names) (start_of k.ends names + size) k.text

  same_word : take size (drop from k.text) ≡ word
  same_word = rw start (sym (drop-take (start_of k.ends names) size k.text))

  pub hashed_on : Hashed (entries_of m r.names) heads' next'
  hashed_on = go a.answer a.lying a.answer_is
    where
      count : length (entries_of k names) ≡ names
      count = tab-length names (entry_at k)

      stays : r.names ≡ names → entries_of m names ≡ entries_of k names → Hashed (entries_of m r.names) heads' next'
      stays e f = rw e (hashed_as (entries_of k names) (entries_of m names) heads next heads' next' f (u.left e).0 (u.left e).1 s)

      go : (x : Entered) → Lying k m names n size x → r ≡ numbered_of x names → Hashed (entries_of m r.names) heads' next'
      go (Listed v) y e = stays (ap (λ (q : Told). q.names) e) y.entries
      go Full y e = stays (ap (λ (q : Told). q.names) e) y.entries
      go (New v) y e =
          let f : r.names ≡ names + 1 = ap (λ (q : Told). q.names) e in
          let g = y.listing.room in
          let w = y.listing.few in
          let c = count in
          let more = hashed_more (entries_of k names) (entry v word) heads next s (omega arith) h (is ∙ ap hash_of same_word) low in
          let there : Hashed (entries_of k names ++ (entry v word ∷ [])) (set heads h (names + 1)) (set next names (get_or heads h 0)) = rw count at more in
          rw f (hashed_as (entries_of k names ++ (entry v word ∷ [])) (entries_of m (names + 1)) (set heads h (names + 1)) (set next names (get_or heads h 0)) heads' next' y.entries (u.entered f).0 (u.entered f).1 there)
