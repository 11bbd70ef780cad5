-- A text laid part by part, where it fits. Assumes nothing.
use mathlib.Core.Path.{◌≡◌, refl, sym, ap, ◌∙◌}
use mathlib.Core.Bool.{Bool, true, false, false≢true}
use mathlib.Core.Logic.{◌⊎◌, inl, inr}
use mathlib.Core.List.{List, [], ◌∷◌, ◌++◌, append-nil, append_assoc}
use Prim.Native.Nat.{ℕ, ◌+◌, ◌-◌, ◌≤◌, ◌<◌}
use native.Mathlib.Omega.{arith}
use lib.Dec.{leb}
use lib.ListN.{length, take, drop, set, length-append, length-drop, take-append-drop}
use lib.Seq.{slice, paste, length-slice, take_at, take_all, take-take, length-take-le}
use borrow.Author.Tests.{le-leb, lt-leb, leb-true, leb-false}
use Rattle.std.specs.Prelude.{Option, Some, None, IfSome}
use Rattle.std.specs.Int.{from_bool}
use Rattle.field.specs.Numbers.{written}
use Rattle.field.proofs.Writing.{length-written, written_on, written_one}
use Rattle.utf8.specs.Characters.{char_bytes}
use Rattle.utf8.proofs.Seeing.{slice_take}
use Rattle.nttext.specs.declared.texts.Written.{Written}
use Rattle.nttext.specs.declared.texts.Front.{Front}
use Rattle.nttext.specs.Standing.{LaidIn, LaidTo}
use Rattle.nttext.specs.Inner.{slashed, unit_of, span_text, Lays, FrontLaid, FrontTo}
use Rattle.nttext.proofs.Runs.{lays-then, laid_end}

pub marks-few : (slash : Bool) → from_bool slash ≤ 1
marks-few true = omega arith
marks-few false = omega arith

module _ (out : List ℕ) where
  take-written : (at : ℕ) (text : List ℕ) → at ≤ length out → take at (written out at text) ≡ take at out
  unfolding written
  take-written at text h =
      ap (take at) (append_assoc (take at out) text (drop (at + length text) out)) ∙ take_at (take at out) (text ++ drop (at + length text) out) at (length-take-le at out h)

  written_none : (at : ℕ) → out ≡ written out at []
  unfolding written
  written_none at =
      let e : at + 0 ≡ at = omega arith in
      sym (ap (λ (l : List ℕ). l ++ drop (at + 0) out) (append-nil (take at out)) ∙ ap (λ (n : ℕ). take at out ++ drop n out) e ∙ take-append-drop at out)

  pub lays-none : (at : ℕ) → at ≤ length out → LaidIn [] out out at true at
  lays-none at h =
      record {
        fits_is = sym (le-leb (at + 0) (length out) (omega arith));
        to_is = λ _. omega arith;
        bytes_are = λ _. written_none at;
        as_long = refl;
        before_is = refl;
      }

  pub lays-not : (text : List ℕ) (at to : ℕ) → length out < at + length text → LaidIn text out out at false to
  lays-not text at to h =
      record {
        fits_is = sym (lt-leb (at + length text) (length out) h);
        to_is = λ e. absurd (false≢true e);
        bytes_are = λ e. absurd (false≢true e);
        as_long = refl;
        before_is = refl;
      }

  pub lays_all : (text after : List ℕ) (at to : ℕ) → at + length text ≤ length out → to ≡ at + length text → after ≡ written out at text →
      LaidIn text out after at true to
  lays_all text after at to h t e =
      record {
        fits_is = sym (le-leb (at + length text) (length out) h);
        to_is = λ _. t;
        bytes_are = λ _. e;
        as_long = ap length e ∙ length-written out at text h;
        before_is = ap (take at) e ∙ take-written at text (omega arith);
      }

  module _ (u v mid after : List ℕ) (at first to : ℕ) where
    -- one text behind another
    pub lays-both : (fits : Bool) → LaidIn u out mid at true first → LaidIn v mid after first fits to → LaidIn (u ++ v) out after at fits to
    lays-both fits x y =
        let room : at + length u ≤ length out = leb-true (at + length u) (length out) (sym x.fits_is) in
        let begins : first ≡ at + length u = x.to_is refl in
        let size = length-append u v in
        let where_to : first + length v ≡ at + length (u ++ v) = omega (arith, size, begins) in
        let test : fits ≡ leb (at + length (u ++ v)) (length out)
        = y.fits_is ∙ ap (λ (n : ℕ). leb n (length mid)) where_to ∙ ap (leb (at + length (u ++ v))) x.as_long in
        let front : take at after ≡ take at out
        = sym (take-take at first after (omega arith)) ∙ ap (take at) y.before_is ∙ take-take at first mid (omega arith) ∙ x.before_is in
        record {
          fits_is = test;
          to_is = λ h. y.to_is h ∙ where_to;
          bytes_are =
              λ h.
              let all : at + length (u ++ v) ≤ length out = leb-true (at + length (u ++ v)) (length out) (sym test ∙ h) in
              y.bytes_are h ∙ ap (λ (l : List ℕ). written l first v) (x.bytes_are refl) ∙ written_on out at u room v first begins (omega (arith, size));
          as_long = y.as_long ∙ x.as_long;
          before_is = front;
        }

    -- nothing fits behind what does not fit
    pub lays-first : LaidIn u out mid at false first → LaidIn (u ++ v) out mid at false to
    lays-first x =
        let more : length out < at + length u = leb-false (at + length u) (length out) (sym x.fits_is) in
        record {
          fits_is = sym (lt-leb (at + length (u ++ v)) (length out) (omega (arith, length-append u v)));
          to_is = λ e. absurd (false≢true e);
          bytes_are = λ e. absurd (false≢true e);
          as_long = x.as_long;
          before_is = x.before_is;
        }

  -- a character, with a backslash before it or not
  module _ (at : ℕ) (w : Written) (marks size : ℕ) (is-marks : marks ≡ from_bool w.slash) (is-size : size ≡ length (char_bytes w.value))
      (begins : at ≤ length out) where
    unit_is : (x : Bool) → w.slash ≡ x → unit_of (Some w) ≡ slashed x w.value
    unit_is x e = ap (λ (t : Bool). slashed t w.value) e

    marks_are : (x : Bool) → w.slash ≡ x → marks ≡ from_bool x
    marks_are x e = is-marks ∙ ap from_bool e

    unit_size : length (unit_of (Some w)) ≡ marks + size
    unit_size = which w.slash refl
      where
        which : (x : Bool) → w.slash ≡ x → length (unit_of (Some w)) ≡ marks + size
        which true e = ap length (unit_is true e) ∙ (let mark : marks ≡ 1 = marks_are true e in omega (arith, is-size))
        which false e = ap length (unit_is false e) ∙ (let mark : marks ≡ 0 = marks_are false e in omega (arith, is-size))

    module _ (fits : marks + size ≤ length out - at) (after : List ℕ) where
      lays-slashed : w.slash ≡ true → after ≡ take (at + 1) (set out at 0x5C) ++ char_bytes w.value ++ drop ((at + 1) + length (char_bytes w.value)) (set out at 0x5C) →
          LaidIn (unit_of (Some w)) out after at true (at + (marks + size))
      unfolding written
      lays-slashed one e =
          let mark : marks ≡ 1 = marks_are true one in
          let first : set out at 0x5C ≡ written out at (0x5C ∷ []) = written_one out at 0x5C (omega arith) in
          let both : after ≡ written out at (0x5C ∷ char_bytes w.value)
          = e ∙ ap (λ (l : List ℕ). written l (at + 1) (char_bytes w.value)) first
          ∙ written_on out at (0x5C ∷ []) (omega arith) (char_bytes w.value) (at + 1) refl (omega (arith, is-size)) in
          lays_all (unit_of (Some w)) after at (at + (marks + size)) (omega (arith, unit_size)) (omega (arith, unit_size))
          (both ∙ ap (written out at) (sym (unit_is true one)))

      lays-bare : w.slash ≡ false → after ≡ take at out ++ char_bytes w.value ++ drop (at + length (char_bytes w.value)) out →
          LaidIn (unit_of (Some w)) out after at true (at + (marks + size))
      unfolding written
      lays-bare bare e =
          lays_all (unit_of (Some w)) after at (at + (marks + size)) (omega (arith, unit_size)) (omega (arith, unit_size))
          (e ∙ ap (written out at) (sym (unit_is false bare)))

      -- a backslash first, or nothing
      pub lays-char : (mid : List ℕ) → ((w.slash ≡ true) × (mid ≡ set out at 0x5C)) ⊎ ((w.slash ≡ false) × (mid ≡ out)) →
          after ≡ take (at + marks) mid ++ char_bytes w.value ++ drop (at + marks + length (char_bytes w.value)) mid →
          LaidIn (unit_of (Some w)) out after at true (at + (marks + size))
      lays-char mid (inl (one, first)) e =
          lays-slashed one
          (e ∙ rw (first, marks_are true one) refl)
      lays-char mid (inr (bare, first)) e =
          let mark : marks ≡ 0 = marks_are false bare in
          let none : at + marks ≡ at = omega arith in
          lays-bare bare
          (e ∙ rw (first, none) refl)

-- where a text would end that does not fit says nothing
pub misfits : {text out after : List ℕ} {at n m : ℕ} → LaidIn text out after at false n → LaidIn text out after at false m
misfits l = record {
  fits_is = l.fits_is;
  to_is = λ e. absurd (false≢true e);
  bytes_are = λ e. absurd (false≢true e);
  as_long = l.as_long;
  before_is = l.before_is;
}

-- ---- bytes as they stand

module _ (b : List ℕ) (from to : ℕ) (rises : from ≤ to) (inside : to ≤ length b) where
  -- the source from the run on, as it is lent
  lent-part : take (length b - from) (drop from b) ≡ drop from b
  lent-part = take_all (length b - from) (drop from b) (let d = length-drop from b in omega arith)

  run_size : length (slice from to b) ≡ to - from
  run_size = length-slice from to b inside

  pub run_laid : (out after : List ℕ) (at : ℕ) → at ≤ length out → to - from ≤ length out - at → after ≡ paste out at (take (length b - from) (drop from b)) (to - from) →
      LaidIn (slice from to b) out after at true (at + (to - from))
  unfolding written
  run_laid out after at h fits e =
      let t : take (to - from) (drop from b) ≡ slice from to b = sym (slice_take from to b rises) in
      let bytes : after ≡ written out at (slice from to b) = e ∙ ap (λ (p : List ℕ). paste out at p (to - from)) lent-part ∙ rw (t, run_size) refl in
      lays_all out (slice from to b) after at (at + (to - from)) (omega (arith, run_size)) (omega (arith, run_size)) bytes

-- ---- one part behind another

module _ (b : List ℕ) (from to : ℕ) (quoted : Bool) (out : List ℕ) (at : ℕ) where
  pub front-on : (u mid after : List ℕ) (i last : ℕ) (r : Option Front) → Lays b from to quoted u i → LaidIn u out mid at true last →
      FrontTo b i to quoted mid after last r → FrontTo b from to quoted out after at r
  front-on u mid after i last (Some r) x l f =
      record { text = u ++ f.text; lays = lays-then x f.lays; lies = lays-both out u f.text mid after at last r.to true l f.lies }
  front-on u mid after i last None x l (n, f) =
      (n, record { text = u ++ f.text; lays = lays-then x f.lays; lies = misfits (lays-both out u f.text mid after at last last false l f.lies) })

  -- a run reaches no less far
  pub front-later : (n mid last : ℕ) (out' after : List ℕ) (r : Option Front) → n < mid → FrontTo b mid to quoted out' after last r → IfSome r (λ f. n < f.at)
  front-later n mid last out' after (Some r) h f = omega (arith, f.lays.later)
  front-later n mid last out' after None h f = tt

  pub front-stops : (u after : List ℕ) (i : ℕ) → Lays b from to quoted u i → LaidIn u out after at false at → FrontTo b from to quoted out after at None
  front-stops u after i x l = (i, record { text = u; lays = x; lies = l })

  pub front-none : from ≤ to → at ≤ length out → FrontLaid b from to quoted out out at true from at
  front-none h l = record {
    text = [];
    lays = record { later = omega arith; within = h; lays = refl; goes = λ g. g };
    lies = lays-none out at l;
  }

  pub span-stops : (after : List ℕ) → FrontTo b from to quoted out after at None → LaidTo (span_text b from to quoted) out after at None
  span-stops after (n, f) = rw f.lays.lays (lays-first out f.text (span_text b n to quoted) after after at at at f.lies)

  pub span-on : (mid after : List ℕ) (i last : ℕ) (r : Option ℕ) → FrontLaid b from to quoted out mid at true i last →
      LaidTo (span_text b i to quoted) mid after last r → LaidTo (span_text b from to quoted) out after at r
  span-on mid after i last (Some n) f m = rw f.lays.lays (lays-both out f.text (span_text b i to quoted) mid after at last n true f.lies m)
  span-on mid after i last None f m =
      rw f.lays.lays (misfits (lays-both out f.text (span_text b i to quoted) mid after at last last false f.lies m))

  pub front_ends : (after : List ℕ) (i last : ℕ) → FrontLaid b from to quoted out after at true i last → to ≤ i →
      LaidIn (span_text b from to quoted) out after at true last
  front_ends after i last f h =
      let none = laid_end b quoted 0 0 i to (omega (arith, f.lays.within)) in
      rw f.lays.lays (rw (none, append-nil f.text) f.lies)
