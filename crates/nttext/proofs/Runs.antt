-- What a source lays, part by part: runs of plain bytes lay themselves, and so does what stands between them. Assumes nothing.
use mathlib.Core.Path.{◌≡◌, refl, sym, ap, subst, ◌∙◌}
use mathlib.Core.Bool.{Bool, true, false}
use mathlib.Core.List.{List, [], ◌∷◌, ◌++◌, append_assoc}
use Prim.Native.Nat.{ℕ, suc, ◌+◌, ◌≤◌, ◌<◌}
use native.Mathlib.Numerals.{add-one}
use native.Mathlib.Omega.{arith}
use lib.Dec.{eqb}
use lib.ListN.{length, get_or}
use lib.Seq.{slice, slice_empty, slice-cons}
use borrow.Author.Tests.{ne_eqb}
use Rattle.utf8.specs.Texts.{chars_of, seen, AllCharacters}
use Rattle.utf8.proofs.Agree.{bytes_one}
use Rattle.utf8.proofs.Judged.{low-character}
use Rattle.utf8.proofs.Texts.{chars-nil}
use Rattle.utf8.proofs.Seeing.{slice_join}
use Rattle.ntline.specs.Classes.{is_white_lem, is_iri_char_lem, is_barred}
use Rattle.utf8.specs.Characters.{is_character_lem}
use Rattle.ntline.specs.Escapes.{part, fed_by, resolved}
use Rattle.ntline.specs.Runs.{plain_byte, Run}
use Rattle.ntline.proofs.Bools.{differs}
use Rattle.ntline.proofs.Resolving.{raw-resolved}
use Rattle.ntline.proofs.Passing.{low-seen, walk_to, barred_slash, plain-low}
use Rattle.nttext.specs.declared.texts.Cursor.{Cursor}
use Rattle.nttext.specs.Laying.{is_dropped, laid}
use Rattle.std.specs.Prelude.{Some, None}
use Rattle.nttext.specs.declared.texts.Written.{Written}
use Rattle.nttext.specs.Inner.{unit_of, IsGood, cursor_at, Given, span_text, Lays, UnitAt}

-- ---- a plain byte

plain-white : (plain_byte false 0x20 ≡ false) × (plain_byte false 0x9 ≡ false)
unfolding plain_byte is_iri_char_lem is_barred is_character_lem
plain-white = (refl, refl)

plain-kept : (quoted : Bool) (x : ℕ) → plain_byte quoted x ≡ true → is_dropped quoted x ≡ false
unfolding is_white_lem
plain-kept true x h = refl
plain-kept false x h = rw (differs (plain_byte false) x 0x20 plain-white.0 h, differs (plain_byte false) x 0x9 plain-white.1 h) refl

plain-one : (quoted : Bool) (x : ℕ) (rest : List ℕ) → plain_byte quoted x ≡ true → laid quoted 0 0 (x ∷ rest) ≡ x ∷ laid quoted 0 0 rest
unfolding laid fed_by
plain-one quoted x rest h =
    let low = plain-low quoted x h in
    let some : eqb x part ≡ false = ne_eqb x part (λ e. omega arith) in
    rw (differs (plain_byte quoted) x 0x5C (barred_slash quoted) h, some, some, plain-kept quoted x h, bytes_one x (omega arith)) refl

plain-given : (quoted : Bool) (x : ℕ) (rest : List ℕ) → plain_byte quoted x ≡ true → Given 0 0 (x ∷ rest) → Given 0 0 rest
plain-given quoted x rest h g =
    let e = raw-resolved x rest (differs (plain_byte quoted) x 0x5C (barred_slash quoted) h) (low-character x (let l = plain-low quoted x h in omega arith)) in
    (subst AllCharacters e g).1

-- ---- a run of them

slice_more : (from k : ℕ) (b : List ℕ) → from ≤ k → k < length b → slice from (k + 1) b ≡ slice from k b ++ (get_or b k 0 ∷ [])
slice_more from k b h l =
    let next : slice (suc k) (k + 1) b ≡ [] = ap (λ (n : ℕ). slice (suc k) n b) (add-one k) ∙ slice_empty (suc k) b in
    let one : slice k (k + 1) b ≡ get_or b k 0 ∷ [] = slice-cons k (k + 1) b 0 (omega arith) (omega arith) ∙ rw next refl in
    sym (slice_join from k (k + 1) b h (omega arith)) ∙ ap (λ (r : List ℕ). slice from k b ++ r) one

module _ (b : List ℕ) (from to : ℕ) (quoted : Bool) (long : to ≤ length b) where
  abbrev LaysTo : ℕ → Type 0
  LaysTo k = (span_text b from to quoted ≡ slice from k b ++ span_text b k to quoted) × (Given 0 0 (seen b from to) → Given 0 0 (seen b k to))

  lays_more : (k : ℕ) → from ≤ k → k < to → plain_byte quoted (get_or b k 0) ≡ true → LaysTo k → LaysTo (k + 1)
  lays_more k l m h q =
      let x = get_or b k 0 in
      let rest = span_text b (k + 1) to quoted in
      let e : seen b k to ≡ x ∷ seen b (k + 1) to = low-seen b k to m long (plain-low quoted x h) in
      let one : span_text b k to quoted ≡ x ∷ rest = ap (laid quoted 0 0) e ∙ plain-one quoted x (seen b (k + 1) to) h in
      let joined : slice from (k + 1) b ++ rest ≡ slice from k b ++ (x ∷ rest)
      = ap (λ (t : List ℕ). t ++ rest) (slice_more from k b l (omega arith)) ∙ append_assoc (slice from k b) (x ∷ []) rest in
      (q.0 ∙ ap (λ (t : List ℕ). slice from k b ++ t) one ∙ sym joined, λ g. plain-given quoted x (seen b (k + 1) to) h (subst (Given 0 0) e (q.1 g)))

  pub run_lays : (mid : ℕ) → Run (plain_byte quoted) b from to mid → Lays b from to quoted (slice from mid b) mid
  run_lays mid r =
      let start : LaysTo from = (sym (ap (λ (t : List ℕ). t ++ span_text b from to quoted) (slice_empty from b)), λ g. g) in
      let all : LaysTo mid = walk_to LaysTo from mid r.later start (λ k l m q. lays_more k l (omega (arith, r.within)) (r.each k l m) q) in
      record { later = r.later; within = r.within; lays = all.0; goes = all.1 }

-- ---- one part behind another

pub lays-then : {b : List ℕ} {from to : ℕ} {quoted : Bool} {u v : List ℕ} {i j : ℕ} → Lays b from to quoted u i → Lays b i to quoted v j → Lays b from to quoted (u ++ v) j
lays-then {b = b} {to = to} {quoted = quoted} {u = u} {v = v} {j = j} x y =
    record {
      later = omega (arith, x.later, y.later);
      within = y.within;
      lays = x.lays ∙ ap (λ (t : List ℕ). u ++ t) y.lays ∙ sym (append_assoc u v (span_text b j to quoted));
      goes = λ g. y.goes (x.goes g);
    }

-- ---- what is left at the end of a source

pub seen_end : (b : List ℕ) (at to : ℕ) → at ≡ to → seen b at to ≡ []
seen_end b at to e = ap (λ (n : ℕ). chars_of (slice n to b)) e ∙ ap chars_of (slice_empty to b) ∙ chars-nil

pub laid_end : (b : List ℕ) (quoted : Bool) (left number at to : ℕ) → at ≡ to → laid quoted left number (seen b at to) ≡ []
unfolding laid
laid_end b quoted left number at to e = ap (laid quoted left number) (seen_end b at to e)

given-end : (b : List ℕ) (at to : ℕ) → at ≡ to → Given 0 0 (seen b at to)
unfolding resolved
given-end b at to e = rw (seen_end b at to e) tt

-- ---- the next character, and what leaves nothing before it

pub record UnitLoop (b : List ℕ) (from to : ℕ) (quoted : Bool) (k : Cursor) : Type 0 where
  pub inside : from ≤ k.at
  pub within : k.at ≤ to
  pub lays : span_text b from to quoted ≡ unit_of k.unit ++ laid quoted k.left k.number (seen b k.at to)
  pub good : Given 0 0 (seen b from to) → IsGood k.unit
  pub goes : Given 0 0 (seen b from to) → Given k.left k.number (seen b k.at to)
  pub over : (w : Written) → k.unit ≡ Some w → (from < k.at) × (k.left ≡ 0) × (k.number ≡ 0)

module _ (b : List ℕ) (from to : ℕ) (quoted : Bool) where
  pub unit_start : (k : Cursor) → k ≡ cursor_at from 0 0 None → from ≤ to → UnitLoop b from to quoted k
  unit_start k e h =
      rw e
      (record {
        inside = omega arith;
        within = h;
        lays = refl;
        good = λ g. tt;
        goes = λ g. g;
        over = λ w x. cc;
      })

  -- at the end of the source, or at a character
  pub unit_over : (k : Cursor) → UnitLoop b from to quoted k → from < to → to ≤ k.at → UnitAt b from to quoted k
  unit_over k l h past =
      let end : k.at ≡ to = omega (arith, l.within) in
      record {
        passes = omega arith;
        lays = record {
          later = l.inside;
          within = l.within;
          lays =
              l.lays
              ∙ ap (λ (t : List ℕ). unit_of k.unit ++ t) (laid_end b quoted k.left k.number k.at to end ∙ sym (laid_end b quoted 0 0 k.at to end));
          goes = λ g. given-end b k.at to end;
        };
        good = l.good;
      }
