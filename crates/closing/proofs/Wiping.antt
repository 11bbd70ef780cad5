-- Lanes whose part from the count on is zeroed hold the rows before it, and zeros behind them. Assumes nothing.
use mathlib.Core.Path.{◌≡◌, refl, ap, ◌∙◌}
use mathlib.Core.List.{List, [], ◌++◌, append-nil}
use Prim.Native.Nat.{ℕ, ◌+◌, ◌-◌, ◌≤◌, ◌<◌}
use native.Mathlib.Omega.{arith}
use lib.ListN.{length, get_or, take, drop, replicate, length-append, length-take, length-drop, length-replicate, drop_of_length-le, get_or-append}
use lib.Seq.{length-take-le, get_or-append-add, get_or-take}
use borrow.Rule.Slice.PartMut.{mid_of, put_mid}
use Rattle.ground.proofs.Tab.{tab-ext}
use Rattle.table.specs.Rows.{Row, lanes, row_at, rows_of, filled}
use Rattle.table.specs.Places.{RowsWithin}
use Rattle.table.proofs.Laid.{zero_row, filled_is}

-- one lane
abbrev wiped : ℕ → List ℕ → List ℕ → List ℕ
wiped n xs ys = put_mid n (length xs - n) xs ys

abbrev Zeros : ℕ → List ℕ → List ℕ → Type 0
Zeros n xs ys = ys ≡ replicate (length (mid_of n (length xs - n) xs)) 0

module _ (n : ℕ) (xs ys : List ℕ) (h : n ≤ length xs) (zeros : Zeros n xs ys) where
  none_left : drop (length xs - n) (drop n xs) ≡ []
  none_left = drop_of_length-le (drop n xs) {i = length xs - n} (omega (arith, length-drop n xs))

  wiped_long : length (wiped n xs ys) ≡ length xs
  wiped_long = rw (zeros, none_left) (simp (length-append, length-take, length-drop, length-replicate) (omega arith))

  wiped_front : (i : ℕ) → i < n → get_or (wiped n xs ys) i 0 ≡ get_or xs i 0
  wiped_front i q = get_or-append (take n xs) _ 0 i (omega (arith, length-take-le n xs h)) ∙ get_or-take n xs i 0 q

  wiped_rest : (i : ℕ) → n ≤ i → get_or (wiped n xs ys) i 0 ≡ 0
  wiped_rest i q =
      let e : i ≡ length (take n xs) + (i - n) = omega (arith, length-take-le n xs h) in
      ap (λ (k : ℕ). get_or (wiped n xs ys) k 0) e
      ∙ get_or-append-add (take n xs) (ys ++ drop (length xs - n) (drop n xs)) (i - n) 0
      ∙ rw (none_left, append-nil ys, zeros) (ap (λ (r : Row). r.s) (zero_row (lanes (mid_of n (length xs - n) xs) [] [] []) (i - n)))

-- the four lanes
pub past_wiped : (S P O A : List ℕ) (n : ℕ) → RowsWithin (lanes S P O A) n
    → (s p o a : List ℕ) → Zeros n S s → Zeros n P p → Zeros n O o → Zeros n A a
    → lanes (wiped n S s) (wiped n P p) (wiped n O o) (wiped n A a) ≡ filled (rows_of (lanes S P O A) n) (lanes S P O A)
past_wiped S P O A n w s p o a zs zp zo za =
    let l = lanes S P O A in
    let m = lanes (wiped n S s) (wiped n P p) (wiped n O o) (wiped n A a) in
    filled_is l m n
    (record {
      same_subj = wiped_long n S s w.in_subj zs;
      same_pred = wiped_long n P p w.in_pred zp;
      same_obj = wiped_long n O o w.in_obj zo;
      same_ann = wiped_long n A a w.in_ann za;
    })
    w
    (λ i q. rw (wiped_rest n S s w.in_subj zs i q, wiped_rest n P p w.in_pred zp i q, wiped_rest n O o w.in_obj zo i q, wiped_rest n A a w.in_ann za i q) refl)
    ∙ ap (λ (R : List Row). filled R l) (tab-ext n (row_at m) (row_at l)
    (λ i q. rw (wiped_front n S s w.in_subj zs i q, wiped_front n P p w.in_pred zp i q, wiped_front n O o w.in_obj zo i q, wiped_front n A a w.in_ann za i q) refl))
