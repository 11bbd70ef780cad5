-- Entries found by a hash of their texts: for each hash the last entry that has it, for each entry the one before it with the same hash.
-- An entry is named by its place + 1; 0 is none.
use Rattle.std.specs.Prelude.{◌≡◌, cond, Option, Some, None, List, [], ◌∷◌, ℕ, zero, suc, ◌+◌, ◌*◌, ◌<◌, ◌%◌, eqb, length, get_or}
use Rattle.names.specs.Names.{Entry, entry, NameLanes, entries_of}
use Rattle.names.specs.Entering.{Lookup, none, number, Listing}

abbrev pub buckets : ℕ
buckets = 512

abbrev pub mixed_by : ℕ → ℕ → ℕ
mixed_by h x = (h * 33 + x) % 65536

unfoldable pub hash_from : ℕ → List ℕ → ℕ
hash_from h [] = h
hash_from h (x ∷ xs) = hash_from (mixed_by h x) xs

unfoldable pub hash_of : List ℕ → ℕ
hash_of word = hash_from 0 word % buckets

-- all of a word but the rest is mixed in
pub record MixedIn (word rest : List ℕ) (h : ℕ) : Type 0 where
  pub mixed : hash_from h rest ≡ hash_from 0 word
  pub small : h < 65536

abbrev pub hash_at : List Entry → ℕ → ℕ
hash_at es i = hash_of (get_or es i (entry 0 [])).text

-- the last entry before place n that has a hash
unfoldable pub last_below : List Entry → ℕ → ℕ → ℕ
last_below es h zero = 0
last_below es h (suc i) = cond (eqb (hash_at es i) h) (suc i) (last_below es h i)

pub record Hashed (es : List Entry) (heads next : List ℕ) : Type 0 where
  pub heads_long : length heads ≡ buckets
  pub next_long : length next ≡ 512
  pub heads_are : (h : ℕ) → h < buckets → get_or heads h 0 ≡ last_below es h (length es)
  pub next_are : (i : ℕ) → i < length es → get_or next i 0 ≡ last_below es (hash_at es i) i

-- a word, with its hash, is looked for among the entries
abbrev pub Sought : NameLanes → ℕ → List ℕ → List ℕ → List ℕ → ℕ → Type 0
Sought l names heads next word h = Listing l names × Hashed (entries_of l names) heads next × (h ≡ hash_of word) × (h < buckets)

abbrev pub lookup_is : Option ℕ → Lookup
lookup_is (Some n) = number n
lookup_is None = none
