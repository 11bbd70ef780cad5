-- "Any two results allowed coincide": a book prints one text. Assumes nothing.
use mathlib.Core.Path.{◌≡◌, sym, ◌∙◌}
use mathlib.Core.List.{List}
use Prim.Native.Nat.{ℕ, ◌<◌}
use native.Mathlib.Decide.{dec_lt}
use native.Mathlib.Omega.{arith}
use lib.ListN.{length}
use Rattle.table.specs.Rows.{Row, Lanes}
use Rattle.rhodf.specs.Rules.{rules_of}
use Rattle.rhodf.specs.Closure.{ClosureOf}
use Rattle.rhodf.proofs.Exists.{closure_exists}
use Rattle.book.specs.Reading.{reading}
use Rattle.book.proofs.ReadsSound.{reading-sound}
use Rattle.close_book.specs.Listed.{Listed}

module _ (l : Lanes) (b x y : List ℕ) (p : Listed l b x) (q : Listed l b y) where
  from-closure : (reading b l).verdict_of.number ≡ 0 → (closed : List Row) → ClosureOf (reading b l).kind (rules_of (reading b l).rules) (reading b l).rows closed
      → Dec (length l.subj < length closed) → x ≡ y
  from-closure z closed c (yes h) = p.no_room z closed c h ∙ sym (q.no_room z closed c h)
  from-closure z closed c (no h) = p.closed z closed c (omega arith) ∙ sym (q.closed z closed c (omega arith))

  from-reading : Dec (0 < (reading b l).verdict_of.number) → x ≡ y
  from-reading (yes h) = p.unread h ∙ sym (q.unread h)
  from-reading (no h) =
      let z : (reading b l).verdict_of.number ≡ 0 = omega arith in
      let c = closure_exists (reading b l).kind (reading b l).rules (reading b l).rows ((reading-sound b l).sound z) in
      from-closure z c.0 c.1 (dec_lt (length l.subj) (length c.0))

  pub listed-determined : x ≡ y
  listed-determined = from-reading (dec_lt 0 (reading b l).verdict_of.number)
