-- What is heard, the grammar has, and means so. Assumes nothing.
use mathlib.Core.Path.{◌≡◌, refl, sym, ap, subst, ◌∙◌}
use mathlib.Core.Bool.{Bool, true, false, cond, ◌&&◌, ◌||◌, false≢true}
use mathlib.Core.List.{List, [], ◌∷◌, ◌++◌, append_assoc, append-nil}
use Prim.Native.Nat.{ℕ, ◌≤◌}
use native.Mathlib.Omega.{arith}
use lib.Dec.{eqb, leb}
use borrow.Author.Tests.{eqb-true, eqb-false, leb-true}
use Rattle.utf8.proofs.Judged.{and_left, and_right}
use Rattle.ntline.specs.Grammar as grammar
use Rattle.ntline.specs.Lexing.{token_of}
use Rattle.ntline.specs.Lines.{is_nil, spaced, is_over, Source, source, typed_of, literal_of, source_of, is_dotted, Parsed, bad, parsed, empty, object_of, predicate_of, subject_of, line_of, meant_by, Heard, wrong, heard, said_by}
use Rattle.ntline.proofs.Worded.{Standing, token_sound, is-space, is-dot, is-hats, is-remark, is-label, is-tag, is-iri, is-string}
use Rattle.ntline.proofs.Spans.{source-iri, source-label, source-string, source-none, literal-tag, literal-hats, literal-bare, typed_iri, typed_none}
use Rattle.ntline.proofs.Hearing.{meant_name, meant_blank, meant_literal, plain-mark, tag_mark, type-mark}

-- ---- white space, and what stands behind it

pub record Spaced (xs : List ℕ) : Type 0 where
  pub space : List ℕ
  pub white : grammar.White space
  pub parts : xs ≡ space ++ spaced xs

pub spaced-sound : (xs : List ℕ) → Spaced xs
unfolding spaced
spaced-sound xs = which (eqb (token_of xs).kind 1) refl
  where
    which : (x : Bool) → eqb (token_of xs).kind 1 ≡ x → Spaced xs
    which true e =
        let s = token_sound xs 1 (eqb-true (token_of xs).kind 1 e) (λ (z : 1 ≡ 0). omega arith) in
        record { space = s.front; white = is-space s.terminal refl; parts = rw e s.parts }
    which false e = record { space = []; white = grammar.White.none; parts = rw e refl }

-- a terminal of a kind behind white space
pub record Behind (xs : List ℕ) (kind : ℕ) : Type 0 where
  pub space : List ℕ
  pub white : grammar.White space
  pub front : List ℕ
  pub terminal : Rattle.ntline.proofs.Worded.Terminal front kind
  pub parts : xs ≡ space ++ (front ++ (token_of (spaced xs)).rest)
  pub there : spaced xs ≡ front ++ (token_of (spaced xs)).rest

pub behind-sound : (xs : List ℕ) (kind : ℕ) → (token_of (spaced xs)).kind ≡ kind → (kind ≡ 0 → ⊥) → Behind xs kind
behind-sound xs kind e some =
    let w = spaced-sound xs in
    let s = token_sound (spaced xs) kind e some in
    record {
      space = w.space;
      white = w.white;
      front = s.front;
      terminal = s.terminal;
      parts = w.parts ∙ ap (λ (l : List ℕ). w.space ++ l) s.parts;
      there = s.parts;
    }

-- ---- terms

-- a term at the front: white space, the object that the grammar has, and what is left
pub record TermThere (cs : List ℕ) (s : Source) : Type 0 where
  pub space : List ℕ
  pub white : grammar.White space
  pub object : List ℕ
  pub term : grammar.Term
  pub has : grammar.Object object term
  pub parts : cs ≡ space ++ (object ++ s.tail)
  pub meant : meant_by s ≡ term
  -- what it is where it has to be more
  pub subject : s.sort ≤ 1 → grammar.Subject object term
  pub predicate : s.sort ≡ 0 → grammar.Predicate object term

iri-there : (cs : List ℕ) → (token_of (spaced cs)).kind ≡ 7 → TermThere cs (source_of cs)
iri-there cs e =
    let b = behind-sound cs 7 e (λ (z : 7 ≡ 0). omega arith) in
    let d = is-iri b.terminal refl in
    let rest : List ℕ = (token_of (spaced cs)).rest in
    let is : source_of cs ≡ source 0 (b.front ++ rest) rest rest = source-iri cs e ∙ ap (λ (l : List ℕ). source 0 l rest rest) b.there in
    record {
      space = b.space;
      white = b.white;
      object = b.front;
      term = grammar.Term.name d.0;
      has = grammar.Object.iri d.1;
      parts = b.parts ∙ ap (λ (s : Source). b.space ++ (b.front ++ s.tail)) (sym is);
      meant = ap meant_by is ∙ meant_name d.1 rest;
      subject = λ h. grammar.Subject.iri d.1;
      predicate = λ h. grammar.Predicate.iri d.1;
    }

label-there : (cs : List ℕ) → (token_of (spaced cs)).kind ≡ 5 → TermThere cs (source_of cs)
label-there cs e =
    let b = behind-sound cs 5 e (λ (z : 5 ≡ 0). omega arith) in
    let d = is-label b.terminal refl in
    let rest : List ℕ = (token_of (spaced cs)).rest in
    let is : source_of cs ≡ source 1 (b.front ++ rest) rest rest = source-label cs e ∙ ap (λ (l : List ℕ). source 1 l rest rest) b.there in
    let one : (source_of cs).sort ≡ 1 = ap (λ (s : Source). s.sort) is in
    record {
      space = b.space;
      white = b.white;
      object = b.front;
      term = grammar.Term.blank d.0;
      has = grammar.Object.label d.1;
      parts = b.parts ∙ ap (λ (s : Source). b.space ++ (b.front ++ s.tail)) (sym is);
      meant = ap meant_by is ∙ meant_blank d.1 rest;
      subject = λ h. grammar.Subject.label d.1;
      predicate = λ h. absurd (omega (arith, one, h));
    }

-- a string with something behind it
module _ (cs : List ℕ) (e : (token_of (spaced cs)).kind ≡ 8) where
  abbrev string : Behind cs 8
  string = behind-sound cs 8 e (λ (z : 8 ≡ 0). omega arith)

  abbrev rest : List ℕ
  rest = (token_of (spaced cs)).rest

  string-is : source_of cs ≡ literal_of (string.front ++ rest) rest
  string-is = source-string cs e ∙ ap (λ (l : List ℕ). literal_of l rest) string.there

  -- a literal that is all of the object
  literal-there : (object chars tail : List ℕ) (sort : grammar.Sort) → grammar.Literal object (grammar.Term.literal chars sort) →
      source_of cs ≡ source 2 (string.front ++ rest) rest tail → spaced cs ≡ object ++ tail →
      meant_by (source 2 (string.front ++ rest) rest tail) ≡ grammar.Term.literal chars sort → TermThere cs (source_of cs)
  literal-there object chars tail sort d is here meant =
      let two : (source_of cs).sort ≡ 2 = ap (λ (s : Source). s.sort) is in
      record {
        space = string.space;
        white = string.white;
        object = object;
        term = grammar.Term.literal chars sort;
        has = grammar.Object.lit d;
        parts = string.parts ∙ ap (λ (l : List ℕ). string.space ++ l) (sym string.there ∙ here) ∙ ap (λ (s : Source). string.space ++ (object ++ s.tail)) (sym is);
        meant = ap meant_by is ∙ meant;
        subject = λ h. absurd (omega (arith, two, h));
        predicate = λ h. absurd (omega (arith, two, h));
      }

  tag_there : (token_of (spaced rest)).kind ≡ 6 → TermThere cs (source_of cs)
  tag_there f =
      let d = is-string string.terminal refl in
      let b = behind-sound rest 6 f (λ (z : 6 ≡ 0). omega arith) in
      let g = is-tag b.terminal refl in
      let tail : List ℕ = (token_of (spaced rest)).rest in
      literal-there (string.front ++ (b.space ++ b.front)) d.0 tail (grammar.Sort.tagged g.0)
      (grammar.Literal.with_tag d.1 b.white g.1 refl)
      (string-is ∙ literal-tag (string.front ++ rest) rest f)
      (string.there ∙ ap (λ (l : List ℕ). string.front ++ l) (b.parts ∙ sym (append_assoc b.space b.front tail)) ∙ sym (append_assoc string.front (b.space ++ b.front) tail))
      (meant_literal d.1 rest tail (grammar.Sort.tagged g.0) (ap (λ (l : List ℕ). Rattle.ntline.specs.Lines.mark_of (spaced (Rattle.ntline.specs.Lines.up_to l tail))) b.parts ∙ tag_mark b.white g.1 tail))

  type-there : (token_of (spaced rest)).kind ≡ 3 → (token_of (spaced (token_of (spaced rest)).rest)).kind ≡ 7 → TermThere cs (source_of cs)
  type-there f h =
      let d = is-string string.terminal refl in
      let b = behind-sound rest 3 f (λ (z : 3 ≡ 0). omega arith) in
      let hat = is-hats b.terminal refl in
      let mid : List ℕ = (token_of (spaced rest)).rest in
      let a = behind-sound mid 7 h (λ (z : 7 ≡ 0). omega arith) in
      let g = is-iri a.terminal refl in
      let tail : List ℕ = (token_of (spaced mid)).rest in
      let whole : rest ≡ b.space ++ (0x5E ∷ 0x5E ∷ (a.space ++ (a.front ++ tail)))
      = b.parts ∙ ap (λ (l : List ℕ). b.space ++ (l ++ mid)) hat ∙ ap (λ (l : List ℕ). b.space ++ (0x5E ∷ 0x5E ∷ l)) a.parts in
      let mark : List ℕ = 0x5E ∷ 0x5E ∷ (a.space ++ a.front) in
      let joined : rest ≡ (b.space ++ mark) ++ tail
      = whole ∙ ap (λ (l : List ℕ). b.space ++ (0x5E ∷ 0x5E ∷ l)) (sym (append_assoc a.space a.front tail)) ∙ sym (append_assoc b.space mark tail) in
      literal-there (string.front ++ (b.space ++ mark)) d.0 tail (grammar.Sort.typed g.0)
      (grammar.Literal.with_type d.1 b.white a.white g.1 refl)
      (string-is ∙ literal-hats (string.front ++ rest) rest f ∙ typed_iri (string.front ++ rest) rest mid h)
      (string.there ∙ ap (λ (l : List ℕ). string.front ++ l) joined ∙ sym (append_assoc string.front (b.space ++ mark) tail))
      (meant_literal d.1 rest tail (grammar.Sort.typed g.0) (ap (λ (l : List ℕ). Rattle.ntline.specs.Lines.mark_of (spaced (Rattle.ntline.specs.Lines.up_to l tail))) whole ∙ type-mark b.white a.white g.1 tail))

  bare-there : ((token_of (spaced rest)).kind ≡ 6 → ⊥) → ((token_of (spaced rest)).kind ≡ 3 → ⊥) → TermThere cs (source_of cs)
  bare-there x y =
      let d = is-string string.terminal refl in
      literal-there string.front d.0 rest grammar.Sort.plain (grammar.Literal.bare d.1)
      (string-is ∙ literal-bare (string.front ++ rest) rest x y)
      string.there
      (meant_literal d.1 rest rest grammar.Sort.plain (plain-mark rest))

  -- no IRI behind '^^' is no term
  type-missing : (token_of (spaced rest)).kind ≡ 3 → ((token_of (spaced (token_of (spaced rest)).rest)).kind ≡ 7 → ⊥) → (source_of cs).sort ≡ 3
  type-missing f x =
      ap (λ (s : Source). s.sort)
      (string-is ∙ literal-hats (string.front ++ rest) rest f ∙ typed_none (string.front ++ rest) rest (token_of (spaced rest)).rest x)

  string-there : (source_of cs).sort ≤ 2 → TermThere cs (source_of cs)
  string-there small = which (eqb (token_of (spaced rest)).kind 6) refl (eqb (token_of (spaced rest)).kind 3) refl (eqb (token_of (spaced (token_of (spaced rest)).rest)).kind 7) refl
    where
      which : (x : Bool) → eqb (token_of (spaced rest)).kind 6 ≡ x → (y : Bool) → eqb (token_of (spaced rest)).kind 3 ≡ y →
          (z : Bool) → eqb (token_of (spaced (token_of (spaced rest)).rest)).kind 7 ≡ z → TermThere cs (source_of cs)
      which true p y q z r = tag_there (eqb-true (token_of (spaced rest)).kind 6 p)
      which false p true q true r = type-there (eqb-true (token_of (spaced rest)).kind 3 q) (eqb-true (token_of (spaced (token_of (spaced rest)).rest)).kind 7 r)
      which false p true q false r =
          absurd (omega (arith, small, type-missing (eqb-true (token_of (spaced rest)).kind 3 q) (eqb-false (token_of (spaced (token_of (spaced rest)).rest)).kind 7 r)))
      which false p false q z r = bare-there (eqb-false (token_of (spaced rest)).kind 6 p) (eqb-false (token_of (spaced rest)).kind 3 q)

pub term-there : (cs : List ℕ) → (source_of cs).sort ≤ 2 → TermThere cs (source_of cs)
term-there cs small = which (eqb (token_of (spaced cs)).kind 7) refl (eqb (token_of (spaced cs)).kind 5) refl (eqb (token_of (spaced cs)).kind 8) refl
  where
    which : (x : Bool) → eqb (token_of (spaced cs)).kind 7 ≡ x → (y : Bool) → eqb (token_of (spaced cs)).kind 5 ≡ y →
        (z : Bool) → eqb (token_of (spaced cs)).kind 8 ≡ z → TermThere cs (source_of cs)
    which true p y q z r = iri-there cs (eqb-true (token_of (spaced cs)).kind 7 p)
    which false p true q z r = label-there cs (eqb-true (token_of (spaced cs)).kind 5 q)
    which false p false q true r = string-there cs (eqb-true (token_of (spaced cs)).kind 8 r) small
    which false p false q false r =
        let three : (source_of cs).sort ≡ 3
        = ap (λ (s : Source). s.sort) (source-none cs (eqb-false (token_of (spaced cs)).kind 7 p) (eqb-false (token_of (spaced cs)).kind 5 q) (eqb-false (token_of (spaced cs)).kind 8 r)) in
        absurd (omega (arith, three, small))

-- ---- the end of a line

record Ended (cs : List ℕ) : Type 0 where
  space : List ℕ
  comment : List ℕ
  white : grammar.White space
  has : grammar.Comment comment
  parts : cs ≡ space ++ comment

pub is-nil : (cs : List ℕ) → is_nil cs ≡ true → cs ≡ []
is-nil [] e = refl
is-nil (c ∷ cs) e = absurd (false≢true e)

over-sound : (cs : List ℕ) → is_over cs ≡ true → Ended cs
unfolding is_over
over-sound cs e = which (is_nil (spaced cs)) refl e
  where
    which : (x : Bool) → is_nil (spaced cs) ≡ x → (x || (eqb (token_of (spaced cs)).kind 4 && is_nil (token_of (spaced cs)).rest)) ≡ true → Ended cs
    which true n h =
        let w = spaced-sound cs in
        record { space = w.space; comment = []; white = w.white; has = grammar.Comment.none; parts = w.parts ∙ ap (λ (l : List ℕ). w.space ++ l) (is-nil (spaced cs) n) }
    which false n h =
        let k = eqb-true (token_of (spaced cs)).kind 4 (and_left (eqb (token_of (spaced cs)).kind 4) _ h) in
        let nil = is-nil (token_of (spaced cs)).rest (and_right (eqb (token_of (spaced cs)).kind 4) _ h) in
        let b = behind-sound cs 4 k (λ (z : 4 ≡ 0). omega arith) in
        let r = is-remark b.terminal refl in
        record {
          space = b.space;
          comment = 0x23 ∷ r.0;
          white = b.white;
          has = grammar.Comment.comment r.2;
          parts = b.parts ∙ ap (λ (l : List ℕ). b.space ++ (b.front ++ l)) nil ∙ ap (λ (l : List ℕ). b.space ++ l) (append-nil b.front ∙ r.1);
        }

record Dotted (cs : List ℕ) : Type 0 where
  space : List ℕ
  after : List ℕ
  comment : List ℕ
  white : grammar.White space
  behind : grammar.White after
  has : grammar.Comment comment
  parts : cs ≡ space ++ (0x2E ∷ (after ++ comment))

dotted_sound : (cs : List ℕ) → is_dotted cs ≡ true → Dotted cs
unfolding is_dotted
dotted_sound cs e =
    let k = eqb-true (token_of (spaced cs)).kind 2 (and_left (eqb (token_of (spaced cs)).kind 2) _ e) in
    let b = behind-sound cs 2 k (λ (z : 2 ≡ 0). omega arith) in
    let dot = is-dot b.terminal refl in
    let o = over-sound (token_of (spaced cs)).rest (and_right (eqb (token_of (spaced cs)).kind 2) _ e) in
    record {
      space = b.space;
      after = o.space;
      comment = o.comment;
      white = b.white;
      behind = o.white;
      has = o.has;
      parts = b.parts ∙ ap (λ (l : List ℕ). b.space ++ (l ++ (token_of (spaced cs)).rest)) dot ∙ ap (λ (l : List ℕ). b.space ++ (0x2E ∷ l)) o.parts;
    }

-- ---- a line

heard-wrong : (said : grammar.Said) → wrong ≡ heard said → ⊥
heard-wrong said e = let z : ◌≡◌ {A = ℕ} 0 1 = cc in omega arith

heard-is : (x y : grammar.Said) → heard x ≡ heard y → x ≡ y
heard-is x y e = cc

module _ (cs : List ℕ) (said : grammar.Said) where
  abbrev S : Source
  S = source_of cs

  abbrev P : Source
  P = source_of S.tail

  abbrev O : Source
  O = source_of P.tail

  triple-there : S.sort ≤ 1 → P.sort ≡ 0 → O.sort ≤ 2 → is_dotted O.tail ≡ true → heard (grammar.Said.says (meant_by S) (meant_by P) (meant_by O)) ≡ heard said → grammar.Says cs said
  triple-there hs hp ho d e =
      let s = term-there cs (omega arith) in
      let p = term-there S.tail (omega (arith, hp)) in
      let o = term-there P.tail ho in
      let f = dotted_sound O.tail d in
      let whole : cs ≡ s.space ++ (s.object ++ (p.space ++ (p.object ++ (o.space ++ (o.object ++ (f.space ++ (0x2E ∷ (f.after ++ f.comment))))))))
      = s.parts
      ∙ ap (λ (l : List ℕ). s.space ++ (s.object ++ l)) p.parts
      ∙ ap (λ (l : List ℕ). s.space ++ (s.object ++ (p.space ++ (p.object ++ l)))) o.parts
      ∙ ap (λ (l : List ℕ). s.space ++ (s.object ++ (p.space ++ (p.object ++ (o.space ++ (o.object ++ l)))))) f.parts in
      let says : grammar.Says cs (grammar.Said.says s.term p.term o.term)
      = grammar.Says.triple_line (grammar.Triple.triple s.white (s.subject hs) p.white (p.predicate hp) o.white o.has f.white f.behind f.has whole) in
      let q : grammar.Said.says s.term p.term o.term ≡ said
      = ap (λ (t : grammar.Term). grammar.Said.says t p.term o.term) (sym s.meant)
      ∙ ap (λ (t : grammar.Term). grammar.Said.says (meant_by S) t o.term) (sym p.meant)
      ∙ ap (λ (t : grammar.Term). grammar.Said.says (meant_by S) (meant_by P) t) (sym o.meant)
      ∙ heard-is _ said e in
      subst (λ (x : grammar.Said). grammar.Says cs x) q says

  object-says : S.sort ≤ 1 → P.sort ≡ 0 → said_by (object_of S P) ≡ heard said → grammar.Says cs said
  unfolding object_of said_by
  object-says hs hp e = which (leb O.sort 2 && is_dotted O.tail) refl e
    where
      which : (x : Bool) → (leb O.sort 2 && is_dotted O.tail) ≡ x → said_by (cond x (parsed S P O) bad) ≡ heard said → grammar.Says cs said
      which true b h =
          triple-there hs hp (leb-true O.sort 2 (and_left (leb O.sort 2) _ b)) (and_right (leb O.sort 2) _ b) h
      which false b h = absurd (heard-wrong said h)

  predicate-says : S.sort ≤ 1 → said_by (predicate_of S) ≡ heard said → grammar.Says cs said
  unfolding predicate_of said_by
  predicate-says hs e = which (eqb P.sort 0) refl e
    where
      which : (x : Bool) → eqb P.sort 0 ≡ x → said_by (cond x (object_of S P) bad) ≡ heard said → grammar.Says cs said
      which true b h = object-says hs (eqb-true P.sort 0 b) h
      which false b h = absurd (heard-wrong said h)

  subject-says : said_by (subject_of cs) ≡ heard said → grammar.Says cs said
  unfolding subject_of said_by
  subject-says e = which (leb S.sort 1) refl e
    where
      which : (x : Bool) → leb S.sort 1 ≡ x → said_by (cond x (predicate_of S) bad) ≡ heard said → grammar.Says cs said
      which true b h = predicate-says (leb-true S.sort 1 b) h
      which false b h = absurd (heard-wrong said h)

  -- sound: what is heard of a line, the grammar says of it
  pub heard-says : said_by (line_of cs) ≡ heard said → grammar.Says cs said
  unfolding line_of said_by
  heard-says e = which (is_over cs) refl e
    where
      which : (x : Bool) → is_over cs ≡ x → said_by (cond x empty (subject_of cs)) ≡ heard said → grammar.Says cs said
      which true b h =
          let o = over-sound cs b in
          subst (λ (x : grammar.Said). grammar.Says cs x) (heard-is grammar.Said.nothing said h)
          (grammar.Says.empty_line (grammar.Empty.empty o.white o.has o.parts))
      which false b h = subject-says h
