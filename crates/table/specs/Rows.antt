-- A table: four lanes and a count, the rows that they mean, and what it is to add a row.
use Rattle.std.specs.Prelude.{◌≡◌, Bool, cond, ◌&&◌, List, [], ◌∷◌, ◌++◌, map, ℕ, ◌+◌, ◌*◌, length, get_or, drop, replicate, ltb, eqb}
use Rattle.ground.specs.Lists.{tab}
use Rattle.annotation.specs.Algebra.{Algebra}

pub record Triple : Type 0 where
  pub s : ℕ
  pub p : ℕ
  pub o : ℕ

abbrev pub triple : ℕ → ℕ → ℕ → Triple
triple s p o = record { s = s; p = p; o = o }

-- a triple and its annotation
pub record Row : Type 0 where
  pub s : ℕ
  pub p : ℕ
  pub o : ℕ
  pub a : ℕ

abbrev pub row : ℕ → ℕ → ℕ → ℕ → Row
row s p o a = record { s = s; p = p; o = o; a = a }

-- one number for "by subject, then predicate, then object": the order of keys is the order of rows
abbrev pub subject_weight : ℕ
subject_weight = 4294967296

abbrev pub predicate_weight : ℕ
predicate_weight = 65536

abbrev pub key_of : ℕ → ℕ → ℕ → ℕ
key_of s p o = s * subject_weight + p * predicate_weight + o

abbrev pub key : Row → ℕ
key r = key_of r.s r.p r.o

-- "at most 1,024"
abbrev pub most_rows : ℕ
most_rows = 1024

-- "four lanes .. (subject, predicate, object as 16-bit numbers, annotation as 64-bit)"
pub record Lanes : Type 0 where
  pub subj : List ℕ
  pub pred : List ℕ
  pub obj : List ℕ
  pub ann : List ℕ

abbrev pub lanes : List ℕ → List ℕ → List ℕ → List ℕ → Lanes
lanes s p o a = record { subj = s; pred = p; obj = o; ann = a }

abbrev pub row_at : Lanes → ℕ → Row
row_at l i = row (get_or l.subj i 0) (get_or l.pred i 0) (get_or l.obj i 0) (get_or l.ann i 0)

abbrev pub key_at : List ℕ → List ℕ → List ℕ → ℕ → ℕ
key_at subj pred obj i = key_of (get_or subj i 0) (get_or pred i 0) (get_or obj i 0)

-- "the first 'count' rows"
abbrev pub rows_of : Lanes → ℕ → List Row
rows_of l n = tab n (row_at l)

-- the lanes with these rows in front, and the rest as it was
abbrev pub laid : List Row → Lanes → Lanes
laid rows l =
    lanes
    (map (λ (r : Row). r.s) rows ++ drop (length rows) l.subj)
    (map (λ (r : Row). r.p) rows ++ drop (length rows) l.pred)
    (map (λ (r : Row). r.o) rows ++ drop (length rows) l.obj)
    (map (λ (r : Row). r.a) rows ++ drop (length rows) l.ann)

-- lanes as long, all zero
abbrev pub zeroed : Lanes → Lanes
zeroed l =
    lanes
    (replicate (length l.subj) 0)
    (replicate (length l.pred) 0)
    (replicate (length l.obj) 0)
    (replicate (length l.ann) 0)

-- the lanes m are as long as the lanes l, each as its own
pub record AsLong (l m : Lanes) : Type 0 where
  pub same_subj : length m.subj ≡ length l.subj
  pub same_pred : length m.pred ≡ length l.pred
  pub same_obj : length m.obj ≡ length l.obj
  pub same_ann : length m.ann ≡ length l.ann

-- "rows past the count are all zero"
abbrev pub filled : List Row → Lanes → Lanes
filled rows l = laid rows (zeroed l)

-- x, with the annotation of r joined to its own
abbrev pub joined : Algebra → Row → Row → Row
joined K r x = row x.s x.p x.o (K.join x.a r.a)

-- the rows with r added: "equal triples join", another goes in where the order wants it
unfoldable pub add_row : Algebra → Row → List Row → List Row
add_row K r [] = r ∷ []
add_row K r (x ∷ xs) =
    cond (ltb (key r) (key x))
    (r ∷ x ∷ xs)
    (cond (eqb (key r) (key x)) (joined K r x ∷ xs) (x ∷ add_row K r xs))

-- rows added one after another
unfoldable pub add_all : Algebra → List Row → List Row → List Row
add_all K [] rows = rows
add_all K (r ∷ rs) rows = add_all K rs (add_row K r rows)

abbrev pub is_triple : Triple → Row → Bool
is_triple t x = eqb x.s t.s && (eqb x.p t.p && eqb x.o t.o)

-- the annotation of a triple in the rows: 0 where no row holds it
unfoldable pub value_at : List Row → Triple → ℕ
value_at [] t = 0
value_at (x ∷ xs) t = cond (is_triple t x) x.a (value_at xs t)

-- the sum of the annotations
unfoldable pub total : List Row → ℕ
total [] = 0
total (x ∷ xs) = x.a + total xs
