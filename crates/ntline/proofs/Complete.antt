-- What the grammar has is heard, and as what the grammar says that it means. So no line means two things. Assumes nothing.
use mathlib.Core.Path.{◌≡◌, refl, sym, ap, ◌∙◌}
use mathlib.Core.Bool.{Bool, true, false, cond}
use mathlib.Core.List.{List, [], ◌∷◌, ◌++◌, append_assoc}
use Prim.Native.Nat.{ℕ, ◌≤◌}
use native.Mathlib.Omega.{arith}
use lib.Dec.{eqb, leb}
use borrow.Author.Tests.{eq-eqb, ne_eqb, leb-true}
use Rattle.ntline.specs.declared.lexing.State.TheVariants.{Label}
use Rattle.ntline.specs.Grammar as grammar
use Rattle.ntline.specs.Lexing.{Token, token_is, munched, token_of}
use Rattle.ntline.specs.Lines.{is_nil, is_over, Source, source, source_of, is_dotted, parsed, empty, object_of, predicate_of, subject_of, line_of, meant_by, heard, said_by}
use Rattle.ntline.proofs.Words.{Stops}
use Rattle.ntline.proofs.Saying.{Front, iri-front, label-front, spaced-front, is_over_lem, is-dotted}
use Rattle.ntline.proofs.Hearing.{label-stops, letters_stops, alnums_stops, label-before, name_source, blank-source, string-source, bare-literal, tagged_literal, typed_literal, meant_name, meant_blank, meant_literal, plain-mark, tag_mark, type-mark}

-- a term read at the front: its source, what is left behind it, what it means
record Reads (cs tail : List ℕ) (t : grammar.Term) (most : ℕ) : Type 0 where
  src : Source
  is : source_of cs ≡ src
  small : leb src.sort most ≡ true
  behind : src.tail ≡ tail
  meant : meant_by src ≡ t

subject-read : {w s : List ℕ} {t : grammar.Term} → grammar.White w → grammar.Subject s t → (rest : List ℕ) → Stops Label rest → Reads (w ++ (s ++ rest)) rest t 1
subject-read {s = s} w (grammar.Subject.iri d) rest stop =
    record { src = source 0 (s ++ rest) rest rest; is = name_source w d rest; small = refl; behind = refl; meant = meant_name d rest }
subject-read {s = s} w (grammar.Subject.label d) rest stop =
    record { src = source 1 (s ++ rest) rest rest; is = blank-source w d rest stop; small = refl; behind = refl; meant = meant_blank d rest }

predicate-read : {w s : List ℕ} {t : grammar.Term} → grammar.White w → grammar.Predicate s t → (rest : List ℕ) → Reads (w ++ (s ++ rest)) rest t 0
predicate-read {s = s} w (grammar.Predicate.iri d) rest =
    record { src = source 0 (s ++ rest) rest rest; is = name_source w d rest; small = refl; behind = refl; meant = meant_name d rest }

module _ {w before after comment : List ℕ} (white : grammar.White w) (b : grammar.White before) (a : grammar.White after) (k : grammar.Comment comment) where
  abbrev ending : List ℕ
  ending = before ++ (0x2E ∷ (after ++ comment))

  literal-read : {s : List ℕ} {t : grammar.Term} → grammar.Literal s t → Reads (w ++ (s ++ ending)) ending t 2
  literal-read {s = s} (grammar.Literal.bare d) =
      record {
        src = source 2 (s ++ ending) ending ending;
        is = string-source white d ending ∙ bare-literal b (s ++ ending) (after ++ comment);
        small = refl;
        behind = refl;
        meant = meant_literal d ending ending grammar.Sort.plain (plain-mark ending);
      }
  literal-read {s = s} (grammar.Literal.with_tag {string = string} {space = space} {tag = tag} {language = language} d sp g whole) =
      let rest : List ℕ = space ++ (tag ++ ending) in
      let parts : s ++ ending ≡ string ++ rest
      = ap (λ (l : List ℕ). l ++ ending) whole ∙ append_assoc string (space ++ tag) ending ∙ ap (λ (l : List ℕ). string ++ l) (append_assoc space tag ending) in
      record {
        src = source 2 (string ++ rest) rest ending;
        is =
            ap (λ (l : List ℕ). source_of (w ++ l)) parts
            ∙ string-source white d rest
            ∙ tagged_literal sp g (string ++ rest) ending (letters_stops b a k) (alnums_stops b a k);
        small = refl;
        behind = refl;
        meant = meant_literal d rest ending (grammar.Sort.tagged language) (tag_mark sp g ending);
      }
  literal-read {s = s} (grammar.Literal.with_type {string = string} {space = space} {more = more} {datatype = datatype} {iri = iri} d sp u g whole) =
      let rest : List ℕ = space ++ (0x5E ∷ 0x5E ∷ (more ++ (datatype ++ ending))) in
      let parts : s ++ ending ≡ string ++ rest
      = ap (λ (l : List ℕ). l ++ ending) whole
      ∙ append_assoc string (space ++ (0x5E ∷ 0x5E ∷ (more ++ datatype))) ending
      ∙ ap (λ (l : List ℕ). string ++ l) (append_assoc space (0x5E ∷ 0x5E ∷ (more ++ datatype)) ending)
      ∙ ap (λ (l : List ℕ). string ++ (space ++ (0x5E ∷ 0x5E ∷ l))) (append_assoc more datatype ending) in
      record {
        src = source 2 (string ++ rest) rest ending;
        is = ap (λ (l : List ℕ). source_of (w ++ l)) parts ∙ string-source white d rest ∙ typed_literal sp u g (string ++ rest) ending;
        small = refl;
        behind = refl;
        meant = meant_literal d rest ending (grammar.Sort.typed iri) (type-mark sp u g ending);
      }

  object-read : {s : List ℕ} {t : grammar.Term} → grammar.Object s t → Reads (w ++ (s ++ ending)) ending t 2
  object-read {s = s} (grammar.Object.iri d) =
      record { src = source 0 (s ++ ending) ending ending; is = name_source white d ending; small = refl; behind = refl; meant = meant_name d ending }
  object-read {s = s} (grammar.Object.label d) =
      record {
        src = source 1 (s ++ ending) ending ending;
        is = blank-source white d ending (label-stops b a k);
        small = refl;
        behind = refl;
        meant = meant_blank d ending;
      }
  object-read (grammar.Object.lit d) = literal-read d

-- ---- a line step by step

subject-step : (cs : List ℕ) (s : Source) → source_of cs ≡ s → leb s.sort 1 ≡ true → subject_of cs ≡ predicate_of s
unfolding subject_of
subject-step cs s e small = rw (e, small) refl

predicate-step : (s p : Source) (cs : List ℕ) → s.tail ≡ cs → source_of cs ≡ p → eqb p.sort 0 ≡ true → predicate_of s ≡ object_of s p
unfolding predicate_of
predicate-step s p cs t e name = rw (t, e, name) refl

object-step : (s p o : Source) (cs end : List ℕ) → p.tail ≡ cs → source_of cs ≡ o → leb o.sort 2 ≡ true → o.tail ≡ end → is_dotted end ≡ true →
    object_of s p ≡ parsed s p o
unfolding object_of
object-step s p o cs end t e small u d = rw (t, e, small, u, d) refl

-- a line with a terminal other than a comment at its front is not over
front-some : (xs : List ℕ) (kind : ℕ) (rest : List ℕ) → token_of xs ≡ token_is kind rest → (kind ≡ 0 → ⊥) → is_nil xs ≡ false
unfolding token_of munched
front-some [] kind rest e some = absurd (some (ap (λ (t : Token). t.kind) (sym e)))
front-some (c ∷ cs) kind rest e some = refl

not-over : {w : List ℕ} → grammar.White w → (xs : List ℕ) (kind : ℕ) (rest : List ℕ) → Front xs kind rest → (kind ≡ 0 → ⊥) → (kind ≡ 4 → ⊥) → is_over (w ++ xs) ≡ false
unfolding is_over
not-over white xs kind rest f some other =
    rw (spaced-front white xs kind rest f, front-some xs kind rest f.found some, f.found, ne_eqb kind 4 other) refl

subject-first : {w s : List ℕ} {t : grammar.Term} → grammar.White w → grammar.Subject s t → (rest : List ℕ) → Stops Label rest → is_over (w ++ (s ++ rest)) ≡ false
subject-first {s = s} w (grammar.Subject.iri d) rest stop =
    not-over w (s ++ rest) 7 rest (iri-front d rest) (λ (e : 7 ≡ 0). omega arith) (λ (e : 7 ≡ 4). omega arith)
subject-first {s = s} w (grammar.Subject.label d) rest stop =
    not-over w (s ++ rest) 5 rest (label-front d rest stop) (λ (e : 5 ≡ 0). omega arith) (λ (e : 5 ≡ 4). omega arith)

predicate-stops : {between predicate : List ℕ} {p : grammar.Term} → grammar.White between → grammar.Predicate predicate p → (rest : List ℕ) → Stops Label (between ++ (predicate ++ rest))
predicate-stops w (grammar.Predicate.iri d) rest = label-before w d rest

sort-name : (n : ℕ) → leb n 0 ≡ true → eqb n 0 ≡ true
sort-name n e = let h : n ≤ 0 = leb-true n 0 e in eq-eqb n 0 (omega arith)

triple-heard : {line : List ℕ} {s p o : grammar.Term} → grammar.Triple line s p o → said_by (line_of line) ≡ heard (grammar.Said.says s p o)
unfolding line_of said_by
triple-heard {line = line} {s = s} {p = p} {o = o} (grammar.Triple.triple {front = front} {subject = subject} {between = between} {predicate = predicate} {behind = behind} {object = object} {before = before} {after = after} {comment = comment} w ds x dp y d b a k whole) =
    let end : List ℕ = before ++ (0x2E ∷ (after ++ comment)) in
    let third : List ℕ = behind ++ (object ++ end) in
    let later : List ℕ = between ++ (predicate ++ third) in
    let stop = predicate-stops x dp third in
    let rs = subject-read w ds later stop in
    let rp = predicate-read x dp third in
    let ro = object-read y b a k d in
    ap (λ (l : List ℕ). said_by (line_of l)) whole
    ∙ ap (λ (t : Bool). said_by (cond t empty (subject_of (front ++ (subject ++ later))))) (subject-first w ds later stop)
    ∙ ap said_by
    (subject-step (front ++ (subject ++ later)) rs.src rs.is rs.small
    ∙ predicate-step rs.src rp.src later rs.behind rp.is (sort-name rp.src.sort rp.small)
    ∙ object-step rs.src rp.src ro.src third end rp.behind ro.is ro.small ro.behind (is-dotted b a k))
    ∙ ap (λ (t : grammar.Term). heard (grammar.Said.says t (meant_by rp.src) (meant_by ro.src))) rs.meant
    ∙ ap (λ (t : grammar.Term). heard (grammar.Said.says s t (meant_by ro.src))) rp.meant
    ∙ ap (λ (t : grammar.Term). heard (grammar.Said.says s p t)) ro.meant

empty-heard : {line : List ℕ} → grammar.Empty line → said_by (line_of line) ≡ heard grammar.Said.nothing
unfolding line_of said_by
empty-heard (grammar.Empty.empty {space = space} {comment = comment} w k whole) =
    ap (λ (l : List ℕ). said_by (line_of l)) whole
    ∙ ap (λ (t : Bool). said_by (cond t empty (subject_of (space ++ comment)))) (is_over_lem w k)

-- complete: a line that the grammar has is heard so
pub says-heard : {line : List ℕ} {said : grammar.Said} → grammar.Says line said → said_by (line_of line) ≡ heard said
says-heard (grammar.Says.empty_line d) = empty-heard d
says-heard (grammar.Says.triple_line d) = triple-heard d

-- unambiguous: a line says one thing
pub says-one : {line : List ℕ} {x y : grammar.Said} → grammar.Says line x → grammar.Says line y → x ≡ y
says-one {line = line} {x = x} {y = y} d e =
    let h : said_by (line_of line) ≡ heard x = says-heard d in
    let g : said_by (line_of line) ≡ heard y = says-heard e in
    cc
