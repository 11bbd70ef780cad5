-- The bytes of a term, piece by piece as they are laid. Assumes nothing.
use mathlib.Core.Path.{◌≡◌, refl, sym, ap, ◌∙◌}
use mathlib.Core.List.{List, [], ◌∷◌, ◌++◌}
use Prim.Native.Nat.{ℕ, zero, suc, ◌+◌, ◌≤◌, ◌<◌}
use native.Mathlib.Nat.{add_assoc}
use native.Mathlib.Omega.{arith}
use lib.ListN.{length, set, length-append}
use lib.Seq.{paste, take_all}
use borrow.Author.Tests.{lt-ltb, le-ltb}
use Rattle.field.specs.Numbers.{written}
use Rattle.field.proofs.Writing.{length-written, written_one, written_both}
use Rattle.term.specs.Term.{sort_of}
use Rattle.names.specs.Five.{rdf_schema, rdf_syntax, five_text}
use Rattle.names.specs.Names.{Entry, text_in, text_of}
use Rattle.ntwrite.specs.Written.{marked, term_bytes, part_bytes, line_bytes}

-- ---- a text

pub five_small : (n : ℕ) → length (five_text n) ≤ 50
unfolding five_text rdf_schema rdf_syntax
five_small zero = omega arith
five_small (suc zero) = omega arith
five_small (suc (suc zero)) = omega arith
five_small (suc (suc (suc zero))) = omega arith
five_small (suc (suc (suc (suc n)))) = omega arith

module _ (es : List Entry) (n : ℕ) where
  pub text-five : n < 5 → text_of es n ≡ five_text n
  text-five h = rw (lt-ltb n 5 h) refl

  pub text-listed : 5 ≤ n → text_of es n ≡ text_in es n
  text-listed h = rw (le-ltb n 5 h) refl

-- a text's bytes, laid whole
pub text-laid : (text out out' : List ℕ) (at : ℕ) → out' ≡ paste out at text (length text) → out' ≡ written out at text
unfolding written
text-laid text out out' at e = e ∙ rw (take_all (length text) text (omega arith)) refl

-- ---- a term

module _ (es : List Entry) (n : ℕ) where
  pub name_is : sort_of n ≡ 0 → term_bytes es n ≡ (60 ∷ []) ++ text_of es n ++ (62 ∷ [])
  unfolding marked
  name_is e = rw e refl

  pub blank-is : sort_of n ≡ 1 → term_bytes es n ≡ (95 ∷ 58 ∷ []) ++ text_of es n
  unfolding marked
  blank-is e = rw e refl

  by_sort : (sort : ℕ) → 2 ≤ sort → marked sort (text_of es n) ≡ text_of es n
  unfolding marked
  by_sort zero h = absurd (omega arith)
  by_sort (suc zero) h = absurd (omega arith)
  by_sort (suc (suc sort)) h = refl

  pub literal-is : 2 ≤ sort_of n → term_bytes es n ≡ text_of es n
  literal-is h = by_sort (sort_of n) h

  pub two_more : (sort : ℕ) → sort < 2 → length (marked sort (text_of es n)) ≡ length (text_of es n) + 2
  unfolding marked
  two_more zero h = let a = length-append ((60 ∷ []) ++ text_of es n) (62 ∷ []) in let b = length-append (60 ∷ []) (text_of es n) in omega arith
  two_more (suc zero) h = let b = length-append (95 ∷ 58 ∷ []) (text_of es n) in omega arith
  two_more (suc (suc sort)) h = absurd (omega arith)

  pub size-marked : sort_of n < 2 → (r : ℕ) → r ≡ length (text_of es n) → r ≤ 32768 → (r + 2 ≡ length (term_bytes es n)) × (r + 2 ≤ 32770)
  size-marked h r e k = let m = two_more (sort_of n) h in (omega arith, omega arith)

  pub size-literal : 2 ≤ sort_of n → (r : ℕ) → r ≡ length (text_of es n) → r ≤ 32768 → (r ≡ length (term_bytes es n)) × (r ≤ 32770)
  size-literal h r e k = (e ∙ ap length (sym (literal-is h)), omega arith)

  module _ (b a c d : List ℕ) (at end : ℕ) (fits : at + length (term_bytes es n) ≤ length b) where
    pub name_laid : sort_of n ≡ 0 → end ≡ at + 1 + length (text_of es n) → a ≡ set b at 60 → c ≡ written a (at + 1) (text_of es n) → d ≡ set c end 62
        → (d ≡ written b at (term_bytes es n)) × (end + 1 ≡ at + length (term_bytes es n))
    name_laid e ends ea ec ed =
        let long = ap length (name_is e) in
        let size = length (text_of es n) in
        let p = length-append ((60 ∷ []) ++ text_of es n) (62 ∷ []) in
        let q = length-append (60 ∷ []) (text_of es n) in
        let one : a ≡ written b at (60 ∷ []) = ea ∙ written_one b at 60 (omega arith) in
        let two : c ≡ written b at ((60 ∷ []) ++ text_of es n) = written_both b a c at 1 (60 ∷ []) (text_of es n) refl (omega arith) one ec in
        let same : length c ≡ length b = ap length two ∙ length-written b at ((60 ∷ []) ++ text_of es n) (omega arith) in
        let last : d ≡ written c (at + (1 + size)) (62 ∷ []) = ed ∙ written_one c end 62 (omega arith) ∙ ap (λ (k : ℕ). written c k (62 ∷ [])) (ends ∙ add_assoc at 1 size) in
        (written_both b c d at (1 + size) ((60 ∷ []) ++ text_of es n) (62 ∷ []) (omega arith) (omega arith) two last ∙ ap (written b at) (sym (name_is e)), omega arith)

    pub blank-laid : sort_of n ≡ 1 → end ≡ at + 2 + length (text_of es n) → a ≡ written b at (95 ∷ 58 ∷ []) → c ≡ written a (at + 2) (text_of es n)
        → (c ≡ written b at (term_bytes es n)) × (end ≡ at + length (term_bytes es n))
    blank-laid e ends ea ec =
        let long = ap length (blank-is e) in
        let q = length-append (95 ∷ 58 ∷ []) (text_of es n) in
        (written_both b a c at 2 (95 ∷ 58 ∷ []) (text_of es n) refl (omega arith) ea ec ∙ ap (written b at) (sym (blank-is e)), omega arith)

    pub literal-laid : 2 ≤ sort_of n → end ≡ at + length (text_of es n) → a ≡ written b at (text_of es n)
        → (a ≡ written b at (term_bytes es n)) × (end ≡ at + length (term_bytes es n))
    literal-laid h ends ea = (ea ∙ ap (written b at) (sym (literal-is h)), ends ∙ ap (λ (t : List ℕ). at + length t) (sym (literal-is h)))

  -- and the blank behind it
  pub part-laid : (b c d : List ℕ) (at end : ℕ) → at + length (part_bytes es n) ≤ length b → end ≡ at + length (term_bytes es n)
      → c ≡ written b at (term_bytes es n) → d ≡ set c end 32 → (d ≡ written b at (part_bytes es n)) × (end + 1 ≡ at + length (part_bytes es n))
  part-laid b c d at end fits ends ec ed =
      let long = length-append (term_bytes es n) (32 ∷ []) in
      let same : length c ≡ length b = ap length ec ∙ length-written b at (term_bytes es n) (omega arith) in
      (written_both b c d at (length (term_bytes es n)) (term_bytes es n) (32 ∷ []) refl (omega arith) ec (ed ∙ written_one c end 32 (omega arith) ∙ ap (λ (k : ℕ). written c k (32 ∷ [])) ends), omega arith)

-- ---- a line

module _ (es : List Entry) (s p o : ℕ) where
  pub line-long : length (line_bytes es s p o) ≡ length (part_bytes es s) + length (part_bytes es p) + length (part_bytes es o) + 2
  line-long =
      let a = length-append (part_bytes es s ++ part_bytes es p ++ part_bytes es o) (46 ∷ 10 ∷ []) in
      let b = length-append (part_bytes es s ++ part_bytes es p) (part_bytes es o) in
      let c = length-append (part_bytes es s) (part_bytes es p) in
      omega arith

  module _ (b x y z w : List ℕ) (at second third last : ℕ) (fits : at + length (line_bytes es s p o) ≤ length b)
      (es2 : second ≡ at + length (part_bytes es s)) (es3 : third ≡ second + length (part_bytes es p)) (es4 : last ≡ third + length (part_bytes es o))
      (ex : x ≡ written b at (part_bytes es s)) where
    first_two : y ≡ written x second (part_bytes es p) → y ≡ written b at (part_bytes es s ++ part_bytes es p)
    first_two ey =
        let l = line-long in
        written_both b x y at (length (part_bytes es s)) (part_bytes es s) (part_bytes es p) refl (omega arith) ex (rw (← es2) ey)

    first_three : y ≡ written x second (part_bytes es p) → z ≡ written y third (part_bytes es o) → z ≡ written b at (part_bytes es s ++ part_bytes es p ++ part_bytes es o)
    first_three ey ez =
        let l = line-long in
        let c = length-append (part_bytes es s) (part_bytes es p) in
        let e : third ≡ at + length (part_bytes es s ++ part_bytes es p) = omega arith in
        written_both b y z at (length (part_bytes es s ++ part_bytes es p)) (part_bytes es s ++ part_bytes es p) (part_bytes es o) refl (omega arith) (first_two ey) (rw (← e) ez)

    pub line-laid : y ≡ written x second (part_bytes es p) → z ≡ written y third (part_bytes es o) → w ≡ written z last (46 ∷ 10 ∷ []) → w ≡ written b at (line_bytes es s p o)
    line-laid ey ez ew =
        let l = line-long in
        let c = length-append (part_bytes es s) (part_bytes es p) in
        let d = length-append (part_bytes es s ++ part_bytes es p) (part_bytes es o) in
        let e : last ≡ at + length (part_bytes es s ++ part_bytes es p ++ part_bytes es o) = omega arith in
        written_both b z w at (length (part_bytes es s ++ part_bytes es p ++ part_bytes es o)) (part_bytes es s ++ part_bytes es p ++ part_bytes es o) (46 ∷ 10 ∷ []) refl (omega arith) (first_three ey ez) (rw (← e) ew)

    pub line-end : last + 2 ≡ at + length (line_bytes es s p o)
    line-end = let l = line-long in omega arith
