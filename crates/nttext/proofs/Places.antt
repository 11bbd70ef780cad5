-- Where the parts of a term lie in a line's bytes. Assumes nothing.
use mathlib.Core.Path.{◌≡◌, refl, sym, ap, subst, ◌∙◌}
use mathlib.Core.Bool.{Bool, true, false, cond}
use mathlib.Core.List.{List, [], ◌∷◌, ◌++◌, append-nil}
use Prim.Native.Nat.{ℕ, ◌+◌, ◌-◌, ◌≤◌}
use native.Mathlib.Omega.{arith}
use lib.Dec.{eqb}
use lib.ListN.{length, take, drop, length-append}
use lib.Seq.{slice, slice_empty, length-slice, take_at, drop_at, drop-drop}
use borrow.Author.Tests.{eq-eqb, ne_eqb}
use Rattle.utf8.specs.Characters.{char_bytes, one_octet, text_bytes}
use Rattle.utf8.specs.Texts.{chars_of, seen, AllCharacters}
use Rattle.utf8.proofs.Texts.{chars-nil, text_of-chars, chars-of_text}
use Rattle.utf8.proofs.Seeing.{slice_join, slice_front}
use Rattle.names.specs.Entering.{same_text_lem}
use Rattle.ntline.specs.declared.lines.Span.{Span}
use Rattle.ntline.specs.Grammar.{Term}
use Rattle.ntline.specs.Escapes.{resolved}
use Rattle.ntline.specs.Kinds.{sort_number}
use Rattle.ntline.specs.Lines.{Source, source_of, meant_by, up_to, inner, SpanOf}
use Rattle.nttext.specs.declared.texts.Bounds.{Bounds}
use Rattle.nttext.specs.Texts.{text_of_term}
use Rattle.nttext.specs.Laying.{laid, xsd_mark, tail_bytes, laid_text}
use Rattle.nttext.specs.Standing.{Stands}
use Rattle.nttext.specs.Inner.{Given, Lies, span_text}
use Rattle.ntline.proofs.Hearing.{up-to, inner-is}
use Rattle.nttext.proofs.Apart.{Apart}
use Rattle.nttext.proofs.Canonical.{text-append}
use Rattle.nttext.proofs.Runs.{laid_end}

-- ---- characters and bytes

pub all_back : (xs ys : List ℕ) → AllCharacters (xs ++ ys) → AllCharacters ys
all_back [] ys a = a
all_back (x ∷ xs) ys a = all_back xs ys a.1

-- what stands before the same end is the same
cut-back : (a b c : List ℕ) → a ++ c ≡ b ++ c → a ≡ b
cut-back a b c e =
    let size : length a ≡ length b = omega (arith, length-append a c, length-append b c, ap length e) in
    sym (take_at a c (length a) refl) ∙ ap (take (length a)) e ∙ take_at b c (length a) (sym size)

module _ (b : List ℕ) where
  seen_bytes : (from end : ℕ) (cs : List ℕ) → seen b from end ≡ cs → AllCharacters cs → slice from end b ≡ text_bytes cs
  seen_bytes from end cs e all = sym (text_of-chars (slice from end b) (subst AllCharacters (sym e) all)) ∙ ap text_bytes e

  -- the bytes of what stands before the rest of a line
  pub front_bytes : (from to end : ℕ) (front rest : List ℕ) → from ≤ to → to ≤ end → AllCharacters (front ++ rest) →
      seen b from end ≡ front ++ rest → seen b to end ≡ rest → slice from to b ≡ text_bytes front
  front_bytes from to end front rest low high all whole behind =
      cut-back (slice from to b) (text_bytes front) (text_bytes rest)
      (ap (λ (l : List ℕ). slice from to b ++ l) (sym (seen_bytes to end rest behind (all_back front rest all)))
      ∙ slice_join from to end b low high ∙ seen_bytes from end (front ++ rest) whole all ∙ text-append front rest)

  pub seen-text : (from to : ℕ) (cs : List ℕ) → slice from to b ≡ text_bytes cs → AllCharacters cs → seen b from to ≡ cs
  seen-text from to cs e all = ap chars_of e ∙ chars-of_text cs all

  -- a part of it, without what stands before and behind
  module _ (from to before behind : ℕ) (p m q : List ℕ) (low : from ≤ to) (high : to ≤ length b) (is : slice from to b ≡ text_bytes p ++ (text_bytes m ++ text_bytes q))
      (is-before : before ≡ length (text_bytes p)) (is-behind : behind ≡ length (text_bytes q)) where
    sizes : to - from ≡ before + (length (text_bytes m) + behind)
    sizes =
        sym (length-slice from to b high) ∙ ap length is ∙ length-append (text_bytes p) (text_bytes m ++ text_bytes q)
        ∙ rw (length-append (text_bytes m) (text_bytes q), ← is-before, ← is-behind) refl

    pub inside-rises : from + before ≤ to - behind
    inside-rises = omega (arith, sizes)

    inside-bytes : slice (from + before) (to - behind) b ≡ text_bytes m
    inside-bytes =
        let n : ℕ = length (text_bytes m) in
        let last : to - behind ≡ (from + before) + n = omega (arith, sizes) in
        let back : slice (from + before) to b ≡ text_bytes m ++ text_bytes q
        = sym (drop-drop before from (take to b)) ∙ ap (drop before) is ∙ drop_at (text_bytes p) (text_bytes m ++ text_bytes q) before (sym is-before) in
        ap (λ (k : ℕ). slice (from + before) k b) last
        ∙ sym (slice_front (from + before) n to b (omega (arith, sizes)))
        ∙ ap (take n) back ∙ take_at (text_bytes m) (text_bytes q) n refl

    pub inside-seen : AllCharacters m → seen b (from + before) (to - behind) ≡ m
    inside-seen all = seen-text (from + before) (to - behind) m inside-bytes all

-- ---- a term

all_front_part : (xs ys : List ℕ) → AllCharacters (xs ++ ys) → AllCharacters xs
all_front_part [] ys a = tt
all_front_part (x ∷ xs) ys a = (a.0, all_front_part xs ys a.1)

abbrev pub bounds : ℕ → ℕ → ℕ → Bounds
bounds from to tail = record { from = from; to = to; tail = tail }

module _ (b : List ℕ) (end : ℕ) (high : end ≤ length b) (t : Span) (m : Term) (st : Stands b end t m) (a : Apart st.line)
    (meant : laid_text (source_of st.line) ≡ text_of_term (meant_by (source_of st.line))) where
  abbrev s : Source
  s = source_of st.line

  abbrev sp : SpanOf b end t s
  sp = st.span_is

  all_from : AllCharacters s.from
  all_from = all_back a.space s.from (subst AllCharacters a.line-is st.all_characters)

  all_to : AllCharacters s.to
  all_to = all_back a.front s.to (subst AllCharacters a.from_is all_from)

  term-bytes : slice t.from t.to b ≡ text_bytes a.front
  term-bytes =
      front_bytes b t.from t.to end a.front s.to sp.rising (omega (arith, sp.rising_tail, sp.within))
      (subst AllCharacters a.from_is all_from) (sp.from_is ∙ a.from_is) sp.to_is

  mark_bytes_lem : slice t.to t.tail b ≡ text_bytes a.mark
  mark_bytes_lem =
      front_bytes b t.to t.tail end a.mark s.tail sp.rising_tail sp.within
      (subst AllCharacters a.to_is all_to) (sp.to_is ∙ a.to_is) sp.tail_is

  front-seen : seen b t.from t.to ≡ a.front
  front-seen = seen-text b t.from t.to a.front term-bytes a.all_front

  mark_seen : seen b t.to t.tail ≡ a.mark
  mark_seen = seen-text b t.to t.tail a.mark mark_bytes_lem a.all_mark

  text_is : laid_text s ≡ text_of_term m
  text_is = meant ∙ ap text_of_term st.means

  pub mark_lies : Lies b t.to t.tail
  mark_lies = record { rising = sp.rising_tail; given = subst (Given 0 0) (sym mark_seen) a.good-mark }

  up-front : up_to s.from s.to ≡ a.front
  up-front = ap (λ (l : List ℕ). up_to l s.to) a.from_is ∙ up-to a.front s.to

  up-mark : up_to s.to s.tail ≡ a.mark
  up-mark = ap (λ (l : List ℕ). up_to l s.tail) a.to_is ∙ up-to a.mark s.tail

  -- a name
  module _ (zero_is : sort_number t.sort ≡ 0) where
    name_sort : s.sort ≡ 0
    name_sort = sym sp.sort_is ∙ zero_is

    abbrev core : List ℕ
    core = (a.name_is name_sort).0

    name_front : a.front ≡ 0x3C ∷ (core ++ (0x3E ∷ []))
    name_front = (a.name_is name_sort).1

    name_bytes : slice t.from t.to b ≡ text_bytes (0x3C ∷ []) ++ (text_bytes core ++ text_bytes (0x3E ∷ []))
    unfolding text_bytes char_bytes one_octet
    name_bytes = term-bytes ∙ ap text_bytes name_front ∙ ap (λ (l : List ℕ). 0x3C ∷ l) (text-append core (0x3E ∷ []))

    core_all : AllCharacters core
    core_all =
        all_front_part core (0x3E ∷ []) (all_back (0x3C ∷ []) (core ++ (0x3E ∷ [])) (subst AllCharacters name_front a.all_front))

    one-open : 1 ≡ length (text_bytes (0x3C ∷ []))
    unfolding text_bytes char_bytes one_octet
    one-open = refl

    one-close : 1 ≡ length (text_bytes (0x3E ∷ []))
    unfolding text_bytes char_bytes one_octet
    one-close = refl

    to_high : t.to ≤ length b
    to_high = omega (arith, sp.rising_tail, sp.within, high)

    pub name_rises : t.from + 1 ≤ t.to - 1
    name_rises = inside-rises b t.from t.to 1 1 (0x3C ∷ []) core (0x3E ∷ []) sp.rising to_high name_bytes one-open one-close

    pub name_long : t.from + 2 ≤ t.to
    name_long =
        let size = sizes b t.from t.to 1 1 (0x3C ∷ []) core (0x3E ∷ []) sp.rising to_high name_bytes one-open one-close in
        omega arith

    name_seen : seen b (t.from + 1) (t.to - 1) ≡ core
    name_seen = inside-seen b t.from t.to 1 1 (0x3C ∷ []) core (0x3E ∷ []) sp.rising to_high name_bytes one-open one-close core_all

    pub name_lies : Lies b (t.from + 1) (t.to - 1)
    name_lies = record { rising = name_rises; given = subst (Given 0 0) (ap inner name_front ∙ inner-is 0x3C 0x3E core ∙ sym name_seen) (a.good-name name_sort) }

    name_laid : laid_text s ≡ laid false 0 0 core
    unfolding laid_text
    name_laid =
        rw (eq-eqb s.sort 0 name_sort) (ap (λ (l : List ℕ). laid false 0 0 (inner l)) (up-front ∙ name_front) ∙ ap (laid false 0 0) (inner-is 0x3C 0x3E core))

    pub name_text : span_text b (t.from + 1) (t.to - 1) (eqb (sort_number t.sort) 2) ++ span_text b (t.to - 1) (t.to - 1) false ≡ text_of_term m
    name_text =
        let quoted : eqb (sort_number t.sort) 2 ≡ false = ne_eqb (sort_number t.sort) 2 (λ (e : sort_number t.sort ≡ 2). omega arith) in
        rw (quoted, laid_end b false 0 0 (t.to - 1) (t.to - 1) refl)
        (append-nil (span_text b (t.from + 1) (t.to - 1) false) ∙ ap (laid false 0 0) name_seen ∙ sym name_laid ∙ text_is)

  -- a blank
  module _ (one-is : sort_number t.sort ≡ 1) where
    blank-sort : s.sort ≡ 1
    blank-sort = sym sp.sort_is ∙ one-is

    abbrev label : List ℕ
    label = (a.blank-is blank-sort).0

    blank-front : a.front ≡ 0x5F ∷ 0x3A ∷ label
    blank-front = (a.blank-is blank-sort).1

    blank-bytes : slice t.from t.to b ≡ text_bytes (0x5F ∷ 0x3A ∷ []) ++ (text_bytes label ++ text_bytes [])
    unfolding text_bytes char_bytes one_octet
    blank-bytes =
        term-bytes ∙ ap text_bytes blank-front ∙ ap (λ (l : List ℕ). 0x5F ∷ 0x3A ∷ l) (sym (append-nil (text_bytes label)))

    label-all : AllCharacters label
    label-all = all_back (0x5F ∷ 0x3A ∷ []) label (subst AllCharacters blank-front a.all_front)

    two_open : 2 ≡ length (text_bytes (0x5F ∷ 0x3A ∷ []))
    unfolding text_bytes char_bytes one_octet
    two_open = refl

    none-close : 0 ≡ length (text_bytes [])
    unfolding text_bytes
    none-close = refl

    high_to : t.to ≤ length b
    high_to = omega (arith, sp.rising_tail, sp.within, high)

    same-to : t.to - 0 ≡ t.to
    same-to = omega arith

    pub blank-long : t.from + 2 ≤ t.to
    blank-long =
        let h = inside-rises b t.from t.to 2 0 (0x5F ∷ 0x3A ∷ []) label [] sp.rising high_to blank-bytes two_open none-close in
        omega arith

    blank-seen : seen b (t.from + 2) t.to ≡ label
    blank-seen =
        ap (λ (n : ℕ). seen b (t.from + 2) n) (sym same-to)
        ∙ inside-seen b t.from t.to 2 0 (0x5F ∷ 0x3A ∷ []) label [] sp.rising high_to blank-bytes two_open none-close label-all

    pub blank-lies : Lies b (t.from + 2) t.to
    blank-lies = record { rising = blank-long; given = subst (Given 0 0) (ap (drop 2) blank-front ∙ sym blank-seen) (a.good-blank blank-sort) }

    blank-laid : laid_text s ≡ laid false 0 0 label
    unfolding laid_text
    blank-laid =
        rw (ne_eqb s.sort 0 (λ (e : s.sort ≡ 0). omega (arith, blank-sort)), eq-eqb s.sort 1 blank-sort)
        (ap (λ (l : List ℕ). laid false 0 0 (drop 2 l)) (up-front ∙ blank-front))

    pub blank-text : span_text b (t.from + 2) t.to (eqb (sort_number t.sort) 2) ++ span_text b t.to t.to false ≡ text_of_term m
    blank-text =
        let quoted : eqb (sort_number t.sort) 2 ≡ false = ne_eqb (sort_number t.sort) 2 (λ (e : sort_number t.sort ≡ 2). omega arith) in
        rw (quoted, laid_end b false 0 0 t.to t.to refl)
        (append-nil (span_text b (t.from + 2) t.to false) ∙ ap (laid false 0 0) blank-seen ∙ sym blank-laid ∙ text_is)

  -- a literal
  module _ (no_name : sort_number t.sort ≡ 0 → ⊥) (no-blank : sort_number t.sort ≡ 1 → ⊥) where
    two_is : sort_number t.sort ≡ 2
    two_is = omega (arith, sp.sort_is, st.is_term)

    literal-sort : s.sort ≡ 2
    literal-sort = sym sp.sort_is ∙ two_is

    pub string-lies : Lies b t.from t.to
    string-lies = record { rising = sp.rising; given = subst (Given 0 0) (sym front-seen) (a.good-string literal-sort) }

    literal-laid : laid_text s ≡ laid true 0 0 a.front ++ tail_bytes a.mark
    unfolding laid_text
    literal-laid =
        rw (
          ne_eqb s.sort 0 (λ (e : s.sort ≡ 0). omega (arith, literal-sort)),
          ne_eqb s.sort 1 (λ (e : s.sort ≡ 1). omega (arith, literal-sort)),
          up-front,
          up-mark,
        ) refl

    whole-text : (tail : ℕ) → span_text b t.to tail false ≡ tail_bytes a.mark →
        span_text b t.from t.to (eqb (sort_number t.sort) 2) ++ span_text b t.to tail false ≡ text_of_term m
    whole-text tail e =
        rw (eq-eqb (sort_number t.sort) 2 two_is, e) (ap (λ (l : List ℕ). laid true 0 0 l ++ tail_bytes a.mark) front-seen ∙ sym literal-laid ∙ text_is)

    tail-test : (x : Bool) → x ≡ same_text_lem (span_text b t.to t.tail false) xsd_mark → tail_bytes a.mark ≡ cond x [] (laid false 0 0 a.mark)
    tail-test x e =
        let same : same_text_lem (laid false 0 0 a.mark) xsd_mark ≡ x = ap (λ (l : List ℕ). same_text_lem (laid false 0 0 l) xsd_mark) (sym mark_seen) ∙ sym e in
        rw same refl

    pub plain-text : true ≡ same_text_lem (span_text b t.to t.tail false) xsd_mark →
        span_text b t.from t.to (eqb (sort_number t.sort) 2) ++ span_text b t.to t.to false ≡ text_of_term m
    plain-text e = whole-text t.to (laid_end b false 0 0 t.to t.to refl ∙ sym (tail-test true e))

    pub marked-text : false ≡ same_text_lem (span_text b t.to t.tail false) xsd_mark →
        span_text b t.from t.to (eqb (sort_number t.sort) 2) ++ span_text b t.to t.tail false ≡ text_of_term m
    marked-text e = whole-text t.tail (ap (laid false 0 0) mark_seen ∙ sym (tail-test false e))

-- nothing lies between a position and itself
pub nothing-lies : (b : List ℕ) (at : ℕ) → Lies b at at
unfolding resolved
nothing-lies b at =
    let none : seen b at at ≡ [] = ap chars_of (slice_empty at b) ∙ chars-nil in
    record { rising = omega arith; given = subst (Given 0 0) (sym none) tt }
