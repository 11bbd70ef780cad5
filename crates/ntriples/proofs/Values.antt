-- A measured value has no text (C-17), whatever the list of names says: a row that has one cannot be written, and is 39. Assumes nothing.
use mathlib.Core.Path.{◌≡◌, refl, sym}
use mathlib.Core.Bool.{Bool, true, false, not, ◌&&◌, ◌||◌}
use mathlib.Core.List.{List}
use mathlib.Core.Logic.{◌⊎◌, inl, inr}
use Prim.Native.Nat.{ℕ}
use lib.Dec.{eqb}
use Rattle.term.specs.Term.{sort_of}
use Rattle.table.specs.Rows.{Row}
use Rattle.names.specs.Names.{Entry}
use Rattle.nttext.specs.Texts.{is_legal_text}
use Rattle.ntriples.specs.Writing.{has_text, is_unwritable}

pub value-has_no_text : (es : List Entry) (n : ℕ) → sort_of n ≡ 3 → has_text es n ≡ false
unfolding is_legal_text
value-has_no_text es n e = rw e refl

one-missing : (a b c d : Bool) → (b ≡ false) ⊎ (d ≡ false) → a || not (b && (c && d)) ≡ true
one-missing true b c d h = refl
one-missing false false c d h = refl
one-missing false true false d h = refl
one-missing false true true false h = refl
one-missing false true true true (inl e) = sym e
one-missing false true true true (inr e) = sym e

pub value-is_unwritable : (es : List Entry) (r : Row) → (sort_of r.s ≡ 3) ⊎ (sort_of r.o ≡ 3) → is_unwritable es r ≡ true
value-is_unwritable es r h = one-missing (eqb (sort_of r.s) 2) (has_text es r.s) (has_text es r.p) (has_text es r.o) (either h)
  where
    either : (sort_of r.s ≡ 3) ⊎ (sort_of r.o ≡ 3) → (has_text es r.s ≡ false) ⊎ (has_text es r.o ≡ false)
    either (inl e) = inl (value-has_no_text es r.s e)
    either (inr e) = inr (value-has_no_text es r.o e)
