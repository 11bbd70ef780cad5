-- "Any two results allowed coincide": an exported call gives one word and leaves one content of the output and of every lane. Assumes nothing.
use mathlib.Core.Path.{◌≡◌, sym, ◌∙◌}
use mathlib.Core.List.{List}
use Prim.Native.Nat.{ℕ, ◌≤◌, ◌<◌}
use native.Mathlib.Decide.{dec_lt}
use native.Mathlib.Omega.{arith}
use lib.ListN.{length}
use Rattle.table.specs.Rows.{Row, Lanes}
use Rattle.names.specs.Names.{NameLanes}
use Rattle.rhodf.specs.Rules.{rules_of}
use Rattle.rhodf.specs.Closure.{ClosureOf}
use Rattle.rhodf.proofs.Exists.{closure_exists}
use Rattle.book.specs.Writing.{book_length_lem}
use Rattle.book.proofs.ReadsSound.{reading-sound}
use Rattle.trackvesper.specs.ClosedBook.{fresh_lanes, said, ClosedBook}
use Rattle.trackvesper.specs.Triples.{ReadTriplesExported, WriteTriplesExported}

module _ (b out x y : List ℕ) (r s : ℕ) (p : ClosedBook b out x r) (q : ClosedBook b out y s) where
  from-unread : 0 < (said b).verdict_of.number → (r ≡ s) × (x ≡ y)
  from-unread h = ((p.unread h).0 ∙ sym (q.unread h).0, (p.unread h).1 ∙ sym (q.unread h).1)

  module _ (z : (said b).verdict_of.number ≡ 0) (closed : List Row) (c : ClosureOf (said b).kind (rules_of (said b).rules) (said b).rows closed) where
    from-full : 1024 < length closed → (r ≡ s) × (x ≡ y)
    from-full h = ((p.no_room z closed c h).0 ∙ sym (q.no_room z closed c h).0, (p.no_room z closed c h).1 ∙ sym (q.no_room z closed c h).1)

    from-fitting : length closed ≤ 1024 → Dec (length out < book_length_lem (said b).rules (length closed)) → (r ≡ s) × (x ≡ y)
    from-fitting h (yes w) = ((p.no_space z closed c h w).0 ∙ sym (q.no_space z closed c h w).0, (p.no_space z closed c h w).1 ∙ sym (q.no_space z closed c h w).1)
    from-fitting h (no w) =
        let fits : book_length_lem (said b).rules (length closed) ≤ length out = omega arith in
        ((p.written z closed c h fits).0 ∙ sym (q.written z closed c h fits).0, (p.written z closed c h fits).1 ∙ sym (q.written z closed c h fits).1)

    from-room : Dec (1024 < length closed) → (r ≡ s) × (x ≡ y)
    from-room (yes h) = from-full h
    from-room (no h) = from-fitting (omega arith) (dec_lt (length out) (book_length_lem (said b).rules (length closed)))

  from-read : Dec (0 < (said b).verdict_of.number) → (r ≡ s) × (x ≡ y)
  from-read (yes h) = from-unread h
  from-read (no h) =
      let z : (said b).verdict_of.number ≡ 0 = omega arith in
      let c = closure_exists (said b).kind (said b).rules (said b).rows ((reading-sound b fresh_lanes).sound z) in
      from-room z c.0 c.1 (dec_lt 1024 (length c.0))

  pub export_determined : (r ≡ s) × (x ≡ y)
  export_determined = from-read (dec_lt 0 (said b).verdict_of.number)

-- makers' lists
pub read-triples_determined : (kind a : ℕ) (file : List ℕ) (l m m' : Lanes) (n k k' : NameLanes) (r r' : ℕ)
    → ReadTriplesExported kind a file l m n k r → ReadTriplesExported kind a file l m' n k' r' → (r ≡ r') × (m ≡ m') × (k ≡ k')
read-triples_determined kind a file l m m' n k k' r r' p q =
    (p.answer_is ∙ sym q.answer_is, p.lanes_are ∙ sym q.lanes_are, p.list_is ∙ sym q.list_is)

pub write_triples_determined : (kind : ℕ) (l : Lanes) (count : ℕ) (n : NameLanes) (names : ℕ) (out after after' : List ℕ) (r r' : ℕ)
    → WriteTriplesExported kind l count n names out after r → WriteTriplesExported kind l count n names out after' r' → (r ≡ r') × (after ≡ after')
write_triples_determined kind l count n names out after after' r r' p q = (p.answer_is ∙ sym q.answer_is, p.out_is ∙ sym q.out_is)
