-- What is held while lines are read: the rows stand for the triples said so far, one row for each, by the list as it is then. Assumes nothing.
use mathlib.Core.Path.{◌≡◌, refl, sym, ap, subst, ◌∙◌}
use mathlib.Core.Bool.{Bool, true, false, cond, false≢true}
use mathlib.Core.List.{List, [], ◌∷◌, ◌++◌}
use mathlib.Core.Logic.{⊎_elim}
use Prim.Native.Nat.{ℕ, suc, ◌≤◌}
use native.Mathlib.Omega.{arith}
use lib.Dec.{eqb}
use lib.ListN.{length, length-append}
use borrow.Author.Tests.{eqb-true, eq-eqb}
use Rattle.annotation.specs.Kinds.{algebra}
use Rattle.annotation.proofs.KindLaws.{laws}
use Rattle.table.specs.Rows.{Row, row, add_row}
use Rattle.table.specs.Sound.{LegalRow, AllLegal, SoundRows}
use Rattle.table.proofs.Values.{legal-small, key-tells}
use Rattle.table.proofs.Putting.{sound-add}
use Rattle.names.specs.Names.{Entry}
use Rattle.names.specs.Entering.{same_text_lem, Lookup, known, Made}
use Rattle.names.proofs.Same.{both_true, same-is, is_same}
use Rattle.names.proofs.Meaning.{known-means}
use Rattle.ntenter.specs.Line.{Room}
use Rattle.ntriples.specs.Shown.{Meant, meant_of, Triple, triple_of, is_among, met_after, same_meant, same_triple, different_texts, different_triples}
use Rattle.ntriples.proofs.ReadingMeansMet.{In, here, later, in_none, in_front, in_behind, in_either, in_one, met-append, among_in, in_among, in_met, met_all}
use Rattle.ntriples.proofs.ReadingMeansRows.{add_there, add_longer, in_added, still-in, added_in, NewKey}
use Rattle.ntriples.proofs.ReadingMeansTexts.{Kept, Keeps}

-- ---- the tests tell

pub meant_tells : (m n : Meant) → same_meant m n ≡ true → m ≡ n
meant_tells m n h =
    let p = both_true (eqb m.sort n.sort) (same_text_lem m.text n.text) h in
    let a = eqb-true m.sort n.sort p.0 in
    let b = same-is m.text n.text p.1 in
    λ i. record { sort = a i; text = b i }

pub meant_self : (m n : Meant) → m ≡ n → same_meant m n ≡ true
meant_self m n e = rw (e, eq-eqb n.sort n.sort refl, is_same n.text n.text refl) refl

pub triple-tells : (t u : Triple) → same_triple t u ≡ true → t ≡ u
triple-tells t u h =
    let p = both_true (same_meant t.s u.s) _ h in
    let q = both_true (same_meant t.p u.p) _ p.1 in
    let a = meant_tells t.s u.s p.0 in
    let b = meant_tells t.p u.p q.0 in
    let c = meant_tells t.o u.o q.1 in
    λ i. record { s = a i; p = b i; o = c i }

pub triple-self : (t u : Triple) → t ≡ u → same_triple t u ≡ true
triple-self t u e = rw (e, meant_self u.s u.s refl, meant_self u.p u.p refl, meant_self u.o u.o refl) refl

-- ---- a row stands for a triple

pub record Stands (es : List Entry) (r : Row) (t : Triple) : Type 0 where
  pub s-is : known es t.s.sort t.s.text ≡ Lookup.number r.s
  pub p-is : known es t.p.sort t.p.text ≡ Lookup.number r.p
  pub o_is : known es t.o.sort t.o.text ≡ Lookup.number r.o

pub stands-keeps : {es es₁ : List Entry} {r : Row} {t : Triple} → Keeps es es₁ → Stands es r t → Stands es₁ r t
stands-keeps {r = r} {t = t} k s = record {
  s-is = k t.s.sort t.s.text r.s s.s-is;
  p-is = k t.p.sort t.p.text r.p s.p-is;
  o_is = k t.o.sort t.o.text r.o s.o_is;
}

module _ {es : List Entry} (made : Made es) (few : length es ≤ 512) where
  meant_is : (m : Meant) (n : ℕ) → known es m.sort m.text ≡ Lookup.number n → meant_of es n ≡ m
  meant_is m n h = let k = known-means made few m.sort m.text n h in λ i. record { sort = k.0 i; text = k.1 i }

  pub stands-means : {r : Row} {t : Triple} → Stands es r t → triple_of es r ≡ t
  stands-means {r} {t} s =
      let a = meant_is t.s r.s s.s-is in
      let b = meant_is t.p r.p s.p-is in
      let c = meant_is t.o r.o s.o_is in
      λ i. record { s = a i; p = b i; o = c i }

-- one triple has one row
pub stands_one : {es : List Entry} {r q : Row} {t : Triple} → Stands es r t → Stands es q t → r.a ≡ q.a → r ≡ q
stands_one {r = r} {q = q} x y e =
    let a : r.s ≡ q.s = number-one (sym x.s-is ∙ y.s-is) in
    let b : r.p ≡ q.p = number-one (sym x.p-is ∙ y.p-is) in
    let c : r.o ≡ q.o = number-one (sym x.o_is ∙ y.o_is) in
    λ i. row (a i) (b i) (c i) (e i)
  where
    number-one : {m n : ℕ} → Lookup.number m ≡ Lookup.number n → m ≡ n
    number-one h = cc

-- ---- what is held

pub record Holds (kind a : ℕ) (room : Room) (ts : List Triple) (es : List Entry) (rows : List Row) : Type 0 where
  pub kept : Kept room (different_texts ts) es
  pub sound : SoundRows kind rows
  pub annotated : (r : Row) → In r rows → r.a ≡ a
  pub row-said : (r : Row) → In r rows → (t : Triple) × In t ts × Stands es r t
  pub said_row : (t : Triple) → In t ts → (r : Row) × In r rows × Stands es r t
  pub count_is : length rows ≡ length (different_triples ts)
  pub fit : length rows ≤ room.rows

legal-in : (kind : ℕ) {x : Row} (R : List Row) → AllLegal kind R → In x R → LegalRow kind x
unfolding AllLegal
legal-in kind [] h i = elim i [ ]
legal-in kind (y ∷ ys) h (here e) = subst (LegalRow kind) e h.0
legal-in kind (y ∷ ys) h (later i) = legal-in kind ys h.1 i

-- one triple more, with its row
module _ (kind a : ℕ) (room : Room) (small : room.entries ≤ 512) (ts : List Triple) (es : List Entry) (rows : List Row) (h : Holds kind a room ts es rows)
    (t : Triple) (es₁ : List Entry) (kept : Kept room (different_texts (ts ++ (t ∷ []))) es₁) (keeps : Keeps es es₁)
    (r : Row) (stands : Stands es₁ r t) (own : r.a ≡ a) (legal : LegalRow kind r) where
  abbrev up_to : List Triple
  up_to = ts ++ (t ∷ [])

  abbrev all : List Row
  all = add_row (algebra kind) r rows

  few : length es₁ ≤ 512
  few = omega (arith, kept.few)

  triples-are : different_triples up_to ≡ cond (is_among same_triple t (different_triples ts)) (different_triples ts) (different_triples ts ++ (t ∷ []))
  unfolding met_after
  triples-are = met-append same_triple [] ts (t ∷ [])

  among_said : is_among same_triple t (different_triples ts) ≡ true → In t ts
  among_said e = ⊎_elim (λ i. absurd (in_none i)) (λ i. i) (in_met same_triple triple-tells triple-self [] ts (among_in same_triple triple-tells triple-self t (different_triples ts) e))

  said-among : In t ts → is_among same_triple t (different_triples ts) ≡ true
  said-among i = in_among same_triple triple-tells triple-self (met_all same_triple triple-tells triple-self [] ts i)

  row-said : (x : Row) → In x rows → (u : Triple) × In u up_to × Stands es₁ x u
  row-said x i = let k = h.row-said x i in (k.0, in_front k.1 (t ∷ []), stands-keeps keeps k.2)

  sound : SoundRows kind all
  sound = sound-add kind r rows legal h.sound

  -- said before: nothing changes
  module _ (there : is_among same_triple t (different_triples ts) ≡ true) where
    in_rows : In r rows
    in_rows =
        let k = h.said_row t (among_said there) in
        let e : k.0 ≡ r = stands_one (stands-keeps keeps k.2) stands (h.annotated k.0 k.1 ∙ sym own) in
        subst (λ (x : Row). In x rows) e k.1

    unchanged : all ≡ rows
    unchanged = add_there (algebra kind) r (laws kind) rows h.sound.ascending in_rows

    same_count : length all ≡ length (different_triples up_to)
    same_count = ap length unchanged ∙ h.count_is ∙ sym (ap length (triples-are ∙ ap (λ (b : Bool). cond b (different_triples ts) (different_triples ts ++ (t ∷ []))) there))

    holds-there : length all ≤ room.rows → Holds kind a room up_to es₁ all
    holds-there fit = record {
      kept = kept;
      sound = sound;
      annotated = λ x i. h.annotated x (subst (In x) unchanged i);
      row-said = λ x i. row-said x (subst (In x) unchanged i);
      said_row = λ u i. ⊎_elim
          (λ j. let k = h.said_row u j in (k.0, subst (In k.0) (sym unchanged) k.1, stands-keeps keeps k.2))
          (λ j. (r, subst (In r) (sym unchanged) in_rows, subst (Stands es₁ r) (in_one j) stands))
          (in_either ts (t ∷ []) i);
      count_is = same_count;
      fit = fit;
    }

  -- not said before: a row more
  module _ (new : is_among same_triple t (different_triples ts) ≡ false) where
    new_key : NewKey (algebra kind) r rows
    new_key x i e =
        let k = row-said x i in
        let old = h.row-said x i in
        let b = key-tells x r (legal-small (legal-in kind rows h.sound.legal i)) (legal-small legal) (sym e) in
        let alike : triple_of es₁ x ≡ triple_of es₁ r
        = λ j. record { s = meant_of es₁ (b.same_s j); p = meant_of es₁ (b.same-p j); o = meant_of es₁ (b.same-o j) } in
        let is : old.0 ≡ t = sym (stands-means kept.made few (stands-keeps keeps old.2)) ∙ alike ∙ stands-means kept.made few stands in
        false≢true (sym new ∙ said-among (subst (λ (u : Triple). In u ts) is old.1))

    more-count : length all ≡ length (different_triples up_to)
    more-count =
        add_longer (algebra kind) r rows new_key ∙ ap suc h.count_is
        ∙ one_more
        ∙ sym (ap length (triples-are ∙ ap (λ (b : Bool). cond b (different_triples ts) (different_triples ts ++ (t ∷ []))) new))
      where
        one_more : suc (length (different_triples ts)) ≡ length (different_triples ts ++ (t ∷ []))
        one_more = let k = length-append (different_triples ts) (t ∷ []) in omega arith

    holds-new : length all ≤ room.rows → Holds kind a room up_to es₁ all
    holds-new fit = record {
      kept = kept;
      sound = sound;
      annotated = λ x i. ⊎_elim (λ e. ap (λ (y : Row). y.a) (sym e) ∙ own) (λ j. h.annotated x j) (added_in (algebra kind) r rows new_key i);
      row-said = λ x i. ⊎_elim
          (λ e. (t, in_behind ts (here refl), subst (λ (y : Row). Stands es₁ y t) e stands))
          (λ j. row-said x j)
          (added_in (algebra kind) r rows new_key i);
      said_row = λ u i. ⊎_elim
          (λ j. let k = h.said_row u j in (k.0, still-in (algebra kind) r rows new_key k.1, stands-keeps keeps k.2))
          (λ j. (r, in_added (algebra kind) r rows new_key, subst (Stands es₁ r) (in_one j) stands))
          (in_either ts (t ∷ []) i);
      count_is = more-count;
      fit = fit;
    }

  pub held-count : length all ≡ length (different_triples up_to)
  held-count = which (is_among same_triple t (different_triples ts)) refl
    where
      which : (b : Bool) → is_among same_triple t (different_triples ts) ≡ b → length all ≡ length (different_triples up_to)
      which true e = same_count e
      which false e = more-count e

  pub held_on : length all ≤ room.rows → Holds kind a room up_to es₁ all
  held_on fit = which (is_among same_triple t (different_triples ts)) refl
    where
      which : (b : Bool) → is_among same_triple t (different_triples ts) ≡ b → Holds kind a room up_to es₁ all
      which true e = holds-there e fit
      which false e = holds-new e fit
