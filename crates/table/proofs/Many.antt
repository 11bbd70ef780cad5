-- Rows added one after another: never fewer, sound, those that ascend as they stand, and in any order the same. Assumes nothing.
use mathlib.Core.Path.{◌≡◌, refl, sym, ap, ◌∙◌}
use mathlib.Core.Bool.{Bool, true, false, cond}
use mathlib.Core.List.{List, [], ◌∷◌, ◌++◌, append_assoc, append-nil}
use Prim.Native.Nat.{ℕ, ◌≤◌, ◌<◌}
use native.Mathlib.Omega.{arith}
use lib.ListN.{length}
use Rattle.annotation.specs.Algebra.{Algebra}
use Rattle.annotation.specs.Kinds.{algebra}
use Rattle.annotation.proofs.KindLaws.{laws}
use Rattle.table.specs.Rows.{Triple, Row, key, add_row, add_all, is_triple, value_at}
use Rattle.table.specs.Sound.{LegalRow, Over, Ascending, AllLegal, SoundRows}
use Rattle.table.proofs.Ordering.{Tri, less, same, more, tri, add_none, add_less, add_same, add_more}
use Rattle.table.proofs.Values.{triple_of, triple-is, legal-small, all_legal_small, value-add_same, value-add_other}
use Rattle.table.proofs.Putting.{sound-add}
use Rattle.table.proofs.SameGraph.{tables_agree}

pub no_fewer : (K : Algebra) (r : Row) (R : List Row) → length R ≤ length (add_row K r R)
no_fewer K r [] = omega arith
no_fewer K r (x ∷ xs) = go (tri (key r) (key x)) (no_fewer K r xs)
  where
    go : Tri (key r) (key x) → length xs ≤ length (add_row K r xs) → length (x ∷ xs) ≤ length (add_row K r (x ∷ xs))
    go (less q) ih = rw (add_less K r x xs q) (omega arith)
    go (same q) ih = rw (add_same K r x xs q) (omega arith)
    go (more q) ih = rw (add_more K r x xs q) (omega arith)

pub all_no_fewer : (K : Algebra) (rs R : List Row) → length R ≤ length (add_all K rs R)
unfolding add_all
all_no_fewer K [] R = omega arith
all_no_fewer K (r ∷ rs) R = omega (arith, no_fewer K r R, all_no_fewer K rs (add_row K r R))

pub sound-add_all : (kind : ℕ) (rs R : List Row) → AllLegal kind rs → SoundRows kind R → SoundRows kind (add_all (algebra kind) rs R)
unfolding add_all AllLegal
sound-add_all kind [] R h s = s
sound-add_all kind (r ∷ rs) R h s = sound-add_all kind rs (add_row (algebra kind) r R) h.1 (sound-add kind r R h.0 s)

-- rows that ascend are added behind one another
abbrev AllUnder : ℕ → List Row → Type 0
AllUnder k [] = Unit {0}
AllUnder k (x ∷ xs) = (key x < k) × AllUnder k xs

add_last : (K : Algebra) (r : Row) (R : List Row) → AllUnder (key r) R → add_row K r R ≡ R ++ (r ∷ [])
add_last K r [] u = add_none K r
add_last K r (x ∷ xs) u = add_more K r x xs u.0 ∙ ap (λ (ys : List Row). x ∷ ys) (add_last K r xs u.1)

under_up : (k k' : ℕ) (R : List Row) → k < k' → AllUnder k R → AllUnder k' R
under_up k k' [] h u = tt
under_up k k' (x ∷ xs) h u = (omega (arith, u.0), under_up k k' xs h u.1)

under_last : (k : ℕ) (x : Row) (R : List Row) → AllUnder k R → key x < k → AllUnder k (R ++ (x ∷ []))
under_last k x [] u h = (h, tt)
under_last k x (y ∷ ys) u h = (u.0, under_last k x ys u.1 h)

abbrev Behind : List Row → List Row → Type 0
Behind R [] = Unit {0}
Behind R (x ∷ xs) = AllUnder (key x) R

behind-next : (x : Row) (xs R : List Row) → Over (key x) xs → AllUnder (key x) R → Behind (R ++ (x ∷ [])) xs
unfolding Over
behind-next x [] R o u = tt
behind-next x (y ∷ ys) R o u = under_last (key y) x R (under_up (key x) (key y) R o.0 u) o.0

add_all_behind : (K : Algebra) (rs R : List Row) → Ascending rs → Behind R rs → add_all K rs R ≡ R ++ rs
unfolding add_all Ascending
add_all_behind K [] R s b = sym (append-nil R)
add_all_behind K (x ∷ xs) R s b =
    ap (add_all K xs) (add_last K x R b)
    ∙ add_all_behind K xs (R ++ (x ∷ [])) s.1 (behind-next x xs R s.0 b)
    ∙ append_assoc R (x ∷ []) xs

pub add_all_ascending : (K : Algebra) (rs : List Row) → Ascending rs → add_all K rs [] ≡ rs
add_all_ascending K [] s = add_all_behind K [] [] s tt
add_all_ascending K (x ∷ xs) s = add_all_behind K (x ∷ xs) [] s tt

-- the same rows in another order
pub data Perm : List Row → List Row → Type 0 where
  none : Perm [] []
  keep : (x : Row) {xs ys : List Row} → Perm xs ys → Perm (x ∷ xs) (x ∷ ys)
  swap : (x y : Row) (xs : List Row) → Perm (x ∷ y ∷ xs) (y ∷ x ∷ xs)
  both : {xs ys zs : List Row} → Perm xs ys → Perm ys zs → Perm xs zs

module _ (kind : ℕ) where
  -- the graph of rows with a legal row added
  value_after : (r : Row) (R : List Row) → LegalRow kind r → SoundRows kind R → (t : Triple) (b : Bool) → is_triple t r ≡ b
      → value_at (add_row (algebra kind) r R) t ≡ cond b ((algebra kind).join (value_at R t) r.a) (value_at R t)
  value_after r R h s t true e =
      let w = triple-is t r e in
      let same-t : triple_of r ≡ t = λ i. record { s = w.same_s i; p = w.same-p i; o = w.same-o i } in
      rw (← same-t) (value-add_same (algebra kind) r (legal-small h) (laws kind) R (all_legal_small kind R s.legal) s.ascending)
  value_after r R h s t false e = value-add_other (algebra kind) r (legal-small h) R (all_legal_small kind R s.legal) t e

  swapped : (b c : Bool) (v x y : ℕ)
      → cond c ((algebra kind).join (cond b ((algebra kind).join v x) v) y) (cond b ((algebra kind).join v x) v)
      ≡ cond b ((algebra kind).join (cond c ((algebra kind).join v y) v) x) (cond c ((algebra kind).join v y) v)
  swapped true true v x y = (laws kind).join_assoc v x y ∙ ap ((algebra kind).join v) ((laws kind).join_comm x y) ∙ sym ((laws kind).join_assoc v y x)
  swapped true false v x y = refl
  swapped false true v x y = refl
  swapped false false v x y = refl

  add_swap : (x y : Row) (R : List Row) → LegalRow kind x → LegalRow kind y → SoundRows kind R
      → add_row (algebra kind) y (add_row (algebra kind) x R) ≡ add_row (algebra kind) x (add_row (algebra kind) y R)
  add_swap x y R hx hy s =
      tables_agree kind _ _ (sound-add kind y _ hy (sound-add kind x R hx s)) (sound-add kind x _ hx (sound-add kind y R hy s))
      (λ t.
      value_after y (add_row (algebra kind) x R) hy (sound-add kind x R hx s) t (is_triple t y) refl
      ∙ ap (λ (v : ℕ). cond (is_triple t y) ((algebra kind).join v y.a) v) (value_after x R hx s t (is_triple t x) refl)
      ∙ swapped (is_triple t x) (is_triple t y) (value_at R t) x.a y.a
      ∙ sym (ap (λ (v : ℕ). cond (is_triple t x) ((algebra kind).join v x.a) v) (value_after y R hy s t (is_triple t y) refl))
      ∙ sym (value_after x (add_row (algebra kind) y R) hx (sound-add kind y R hy s) t (is_triple t x) refl))

  perm_legal : {xs ys : List Row} → Perm xs ys → AllLegal kind xs → AllLegal kind ys
  unfolding AllLegal
  perm_legal none h = tt
  perm_legal (keep x p) h = (h.0, perm_legal p h.1)
  perm_legal (swap x y xs) h = (h.1.0, (h.0, h.1.1))
  perm_legal (both p q) h = perm_legal q (perm_legal p h)

  pub any_order : {xs ys : List Row} → Perm xs ys → (R : List Row) → AllLegal kind xs → SoundRows kind R
      → add_all (algebra kind) xs R ≡ add_all (algebra kind) ys R
  unfolding add_all AllLegal
  any_order none R h s = refl
  any_order (keep x p) R h s = any_order p (add_row (algebra kind) x R) h.1 (sound-add kind x R h.0 s)
  any_order (swap x y xs) R h s = ap (add_all (algebra kind) xs) (add_swap x y R h.0 h.1.0 s)
  any_order (both p q) R h s = any_order p R h s ∙ any_order q R (perm_legal p h) s
