-- What `put_at` leaves, in each of its three cases: joined, put in, full. Assumes nothing.
use mathlib.Core.Path.{◌≡◌, refl, sym, ap, ◌∙◌}
use mathlib.Core.Bool.{Bool, true, false, true≢false, false≢true}
use mathlib.Core.List.{List, [], ◌∷◌}
use Prim.Native.Nat.{ℕ, suc, ◌+◌, ◌≤◌, ◌<◌}
use native.Mathlib.Numerals.{add-one}
use native.Mathlib.Omega.{arith}
use lib.ListN.{length, get_or, set, length-set}
use lib.Seq.{get_or-set_same, get_or-set_other, set-get_or}
use borrow.Author.Tests.{lt-ltb, le-ltb}
use Rattle.ground.proofs.Tab.{tab-length}
use Rattle.annotation.specs.Kinds.{algebra, is_legal}
use Rattle.annotation.proofs.KindLaws.{laws}
use Rattle.annotation.proofs.Legal.{legal-value, value-legal}
use Rattle.table.specs.Rows.{Row, Lanes, row, lanes, key, key_of, key_at, row_at, rows_of, add_row, joined, laid, AsLong}
use Rattle.table.specs.Sound.{LegalRow, AllLegal, SoundRows}
use Rattle.table.specs.Adding.{rows_with}
use Rattle.table.specs.Places.{Placed}
use Rattle.table.specs.Putting.{opened, JoinedAt, PutInto, Put}
use Rattle.table.proofs.Opening.{length-opened, opened-before, opened-at, opened-moved, opened-past}
use Rattle.table.proofs.Inserting.{add_inserts, add_joins, add_long, total-set, total-insert}
use Rattle.table.proofs.Ordering.{Tri, less, same, more, tri, add_none, add_less, add_same, add_more, ascending-add}
use Rattle.table.proofs.Soundness.{sound-within, sound-rows_within, sound-list, list_sound}
use Rattle.table.proofs.Laid.{laid-is, as_long-self}

-- legal rows stay legal with a legal row added
module _ (kind : ℕ) where
  legal-join : (x a : ℕ) → is_legal kind x ≡ true → is_legal kind a ≡ true → is_legal kind ((algebra kind).join x a) ≡ true
  legal-join x a hx ha =
      let vx = legal-value x kind hx in
      let va = legal-value a kind ha in
      value-legal ((algebra kind).join x a) kind (omega (arith, (laws kind).join_grows x a, vx.0)) ((laws kind).join_value x a vx.1 va.1)

  legal-joined : (r x : Row) → LegalRow kind r → LegalRow kind x → LegalRow kind (joined (algebra kind) r x)
  legal-joined r x hr hx = record {
    subject = hx.subject;
    predicate = hx.predicate;
    object = hx.object;
    annotation = legal-join x.a r.a hx.annotation hr.annotation;
  }

  legal-add : (r : Row) (R : List Row) → LegalRow kind r → AllLegal kind R → AllLegal kind (add_row (algebra kind) r R)
  unfolding AllLegal
  legal-add r [] hr w = rw (add_none (algebra kind) r) (hr, tt)
  legal-add r (x ∷ xs) hr w = go (tri (key r) (key x)) (legal-add r xs hr w.1)
    where
      go : Tri (key r) (key x) → AllLegal kind (add_row (algebra kind) r xs) → AllLegal kind (add_row (algebra kind) r (x ∷ xs))
      go (less q) ih = rw (add_less (algebra kind) r x xs q) (hr, w)
      go (same q) ih = rw (add_same (algebra kind) r x xs q) (legal-joined r x hr w.0, w.1)
      go (more q) ih = rw (add_more (algebra kind) r x xs q) (w.0, ih)

  pub sound-add : (r : Row) (R : List Row) → LegalRow kind r → SoundRows kind R → SoundRows kind (add_row (algebra kind) r R)
  sound-add r R hr s = record { ascending = ascending-add (algebra kind) r R s.ascending; legal = legal-add r R hr s.legal }

module _ (kind : ℕ) (S P O A : List ℕ) (n s p o a k at : ℕ)
    (pre : PutInto kind (row s p o a) (lanes S P O A) n) (ke : k ≡ key_of s p o) (pl : Placed S P O n k at) where
  abbrev l : Lanes
  l = lanes S P O A

  abbrev r : Row
  r = row s p o a

  low : (i : ℕ) → i < at → key (row_at l i) < key r
  low i q = omega (arith, pl.before i q)

  with_sound : SoundRows kind (rows_with kind r l n)
  with_sound = sound-add kind r (rows_of l n) pre.legal (sound-list pre.sound)

  module _ (A' : List ℕ) (c : Bool) (ht : at < n) (e : k ≡ key_at S P O at) (me : JoinedAt kind A at a A' c) where
    abbrev m : Lanes
    m = lanes S P O A'

    long-joined : AsLong l m
    long-joined = record {
      same_subj = refl;
      same_pred = refl;
      same_obj = refl;
      same_ann = ap length me.stored ∙ length-set A at ((algebra kind).join (get_or A at 0) a);
    }

    in_ann : at < length A
    in_ann = omega (arith, pre.sound.within, pre.sound.ann_long)

    other : (i : ℕ) → (i ≡ at → ⊥) → row_at m i ≡ row_at l i
    other i w = ap (row (get_or S i 0) (get_or P i 0) (get_or O i 0))
        (ap (λ (z : List ℕ). get_or z i 0) me.stored ∙ get_or-set_other A at i ((algebra kind).join (get_or A at 0) a) 0 w)

    here : get_or A' at 0 ≡ (algebra kind).join (get_or A at 0) a
    here = ap (λ (z : List ℕ). get_or z at 0) me.stored ∙ get_or-set_same A at ((algebra kind).join (get_or A at 0) a) 0 in_ann

    rows-joined : rows_of m n ≡ rows_with kind r l n
    rows-joined =
        add_joins (algebra kind) r at n (row_at l) (row_at m) ht low (omega arith)
        (λ i q w. other i w) (ap (row (get_or S at 0) (get_or P at 0) (get_or O at 0)) here)

    as_before : c ≡ false → A' ≡ A
    as_before z = me.stored ∙ ap (set A at) (me.same z) ∙ set-get_or A at 0

    laid-joined : m ≡ laid (rows_of m n) l
    laid-joined = laid-is l m n long-joined (sound-rows_within pre.sound) (λ i q. other i (λ w. omega arith))

    pub put_joined : Put kind r l n m false c n
    put_joined = record {
      as_long = long-joined;
      more = omega arith;
      full_is = sym (le-ltb (length S) _ (rw (← rows-joined, tab-length n (row_at m)) pre.sound.within));
      full_still = λ z. absurd (false≢true z);
      lanes_are = λ z. laid-joined ∙ ap (λ (R : List Row). laid R l) rows-joined;
      rows_are = λ z. rows-joined;
      count_is = λ z. sym (tab-length n (row_at m)) ∙ ap length rows-joined;
      still = λ z. (ap (lanes S P O) (as_before z), refl);
      grows = λ z.
          let ne : get_or A' at 0 ≡ get_or A at 0 → ⊥ = λ w. me.other z (sym here ∙ w) in
          total-set at n (row_at l) (row_at m) ht (λ i q w. other i w) (omega (arith, here, (laws kind).join_grows (get_or A at 0) a, ne));
      rest = λ i q. other i (λ w. omega arith);
      sound = list_sound pre.sound m n long-joined pre.sound.within (rw rows-joined with_sound);
    }

  module _ (ne : at < n → k ≡ key_at S P O at → ⊥) where
    high : at < n → key r < key (row_at l at)
    high q = let w : k ≡ key_at S P O at → ⊥ = ne q in omega (arith, pl.reached q, w)

    module _ (room : n < length S) where
      abbrev after : Lanes
      after = lanes (opened at n s S) (opened at n p P) (opened at n o O) (opened at n a A)

      h_p : n < length P
      h_p = omega (arith, pre.sound.pred_long)

      h_o : n < length O
      h_o = omega (arith, pre.sound.obj_long)

      h_a : n < length A
      h_a = omega (arith, pre.sound.ann_long)

      g_before : (i : ℕ) → i < at → row_at after i ≡ row_at l i
      g_before i q =
          let w : at ≤ n = pl.within in
          rw (opened-before at n s S w room i q, opened-before at n p P w h_p i q, opened-before at n o O w h_o i q, opened-before at n a A w h_a i q) refl

      g_at : row_at after at ≡ r
      g_at =
          let w : at ≤ n = pl.within in
          rw (opened-at at n s S w room, opened-at at n p P w h_p, opened-at at n o O w h_o, opened-at at n a A w h_a) refl

      g_moved : (i : ℕ) → at ≤ i → i < n → row_at after (suc i) ≡ row_at l i
      g_moved i h q =
          let w : at ≤ n = pl.within in
          rw (opened-moved at n s S w room i h q, opened-moved at n p P w h_p i h q, opened-moved at n o O w h_o i h q, opened-moved at n a A w h_a i h q) refl

      g_past : (i : ℕ) → n < i → row_at after i ≡ row_at l i
      g_past i h =
          let w : at ≤ n = pl.within in
          rw (opened-past at n s S w room i h, opened-past at n p P w h_p i h, opened-past at n o O w h_o i h, opened-past at n a A w h_a i h) refl

      rows-put : rows_of after (n + 1) ≡ rows_with kind r l n
      rows-put = rw (add-one n) (add_inserts (algebra kind) r at n (row_at l) (row_at after) pl.within low high g_before g_at g_moved)

      long-put : AsLong l after
      long-put =
          let w : at ≤ n = pl.within in
          record {
            same_subj = length-opened at n s S w room;
            same_pred = length-opened at n p P w h_p;
            same_obj = length-opened at n o O w h_o;
            same_ann = length-opened at n a A w h_a;
          }

      laid-put : after ≡ laid (rows_of after (n + 1)) l
      laid-put = laid-is l after (n + 1) long-put (sound-within pre.sound (omega arith)) (λ i q. g_past i (omega arith))

      pub put_in : Put kind r l n after false true (n + 1)
      put_in =
          let w : at ≤ n = pl.within in
          record {
            as_long = long-put;
            more = omega arith;
            full_is = sym (le-ltb (length S) _ (rw (← rows-put, tab-length (n + 1) (row_at after)) (omega arith)));
            full_still = λ z. absurd (false≢true z);
            lanes_are = λ z. laid-put ∙ ap (λ (R : List Row). laid R l) rows-put;
            rows_are = λ z. rows-put;
            count_is = λ z. sym (tab-length (n + 1) (row_at after)) ∙ ap length rows-put;
            still = λ z. absurd (true≢false z);
            grows = λ z. rw (add-one n) (omega (arith, total-insert r at n (row_at l) (row_at after) w g_before g_at g_moved, legal-value a kind pre.legal.annotation));
            rest = λ i q. g_past i (omega arith);
            sound = list_sound pre.sound after (n + 1) long-put (omega (arith, long-put.same_subj)) (rw rows-put with_sound);
          }

    pub put_full : length S ≤ n → Put kind r l n l true false n
    put_full h = record {
      as_long = as_long-self l;
      more = omega arith;
      full_is = sym (lt-ltb (length S) _ (rw (add_long (algebra kind) r at n (row_at l) pl.within low high) (omega arith)));
      full_still = λ z. refl;
      lanes_are = λ z. absurd (true≢false z);
      rows_are = λ z. absurd (true≢false z);
      count_is = λ z. absurd (true≢false z);
      still = λ z. (refl, refl);
      grows = λ z. absurd (false≢true z);
      rest = λ i q. refl;
      sound = pre.sound;
    }
