-- L2: a text is legal for a sort exactly when it is the text of a term of that sort that the grammar has. L1: equal terms (N16) have
-- equal texts, unequal terms of one sort unequal ones. Assumes nothing.
use mathlib.Core.Path.{◌≡◌, refl, sym, ap, subst, ◌∙◌}
use mathlib.Core.Bool.{Bool, true, false, cond, false≢true}
use mathlib.Core.Logic.{◌↔◌}
use mathlib.Core.List.{List, [], ◌∷◌, ◌++◌}
use Prim.Native.Nat.{ℕ, ◌≤◌}
use native.Mathlib.Omega.{arith}
use lib.Dec.{eqb, leb}
use lib.ListN.{length, length-append}
use borrow.Author.Tests.{eqb-true, eq-eqb, leb-true, le-leb}
use Rattle.utf8.specs.Characters.{char_bytes, text_bytes}
use Rattle.utf8.specs.Texts.{chars_of}
use Rattle.utf8.proofs.Texts.{chars-of_text}
use Rattle.utf8.proofs.Agree.{size_few}
use Rattle.names.specs.Entering.{same_text_lem}
use Rattle.names.proofs.Same.{both_true, same-is, is_same}
use Rattle.ntwrite.specs.Written.{marked}
use Rattle.ntline.specs.Grammar as grammar
use Rattle.ntline.specs.Lines.{Source, is_nil, source_of, meant_by}
use Rattle.ntline.proofs.Sound.{is-nil}
use Rattle.ntline.proofs.Encoded.{object-all}
use Rattle.nttext.specs.Texts.{canonical_bytes, xsd_string, mark_bytes, text_of_term, sort_of_term, as_sort, as_term, SameTerm, Has, is_legal_text}
use Rattle.nttext.proofs.Shapes.{shape_of, shape_has, shape_meant, shape_sort, term_of}
use Rattle.nttext.proofs.Alone.{read-alone}
use Rattle.nttext.proofs.Canonical.{Twin, twin}

-- ---- the test taken apart

abbrev pub read_of : ℕ → List ℕ → Source
read_of sort text = source_of (chars_of (marked sort text))

pub record LegalRead (sort : ℕ) (text : List ℕ) : Type 0 where
  pub is_term : (read_of sort text).sort ≤ 2
  pub sort_is : (read_of sort text).sort ≡ sort
  pub whole : (read_of sort text).tail ≡ []
  pub text_is : text_of_term (meant_by (read_of sort text)) ≡ text

pub legal-read : (sort : ℕ) (text : List ℕ) → is_legal_text sort text ≡ true → LegalRead sort text
unfolding is_legal_text
legal-read sort text h =
    let a = both_true (leb sort 2) _ h in
    let b = both_true (eqb (read_of sort text).sort sort) _ a.1 in
    let c = both_true (is_nil (read_of sort text).tail) _ b.1 in
    record {
      is_term = omega (arith, leb-true sort 2 a.0, eqb-true (read_of sort text).sort sort b.0);
      sort_is = eqb-true (read_of sort text).sort sort b.0;
      whole = is-nil (read_of sort text).tail c.0;
      text_is = same-is (text_of_term (meant_by (read_of sort text))) text c.1;
    }

nil_is : (l : List ℕ) → l ≡ [] → is_nil l ≡ true
nil_is l e = rw e refl

pub read-legal : (sort : ℕ) (text : List ℕ) → LegalRead sort text → is_legal_text sort text ≡ true
unfolding is_legal_text
read-legal sort text r =
    rw (
      le-leb sort 2 (omega (arith, r.is_term, r.sort_is)),
      eq-eqb (read_of sort text).sort sort r.sort_is,
      nil_is (read_of sort text).tail r.whole,
      is_same (text_of_term (meant_by (read_of sort text))) text r.text_is,
    ) refl

-- ---- the same term

as_mark : (sort : grammar.Sort) → mark_bytes (as_sort sort) ≡ mark_bytes sort
unfolding mark_bytes as_sort
as_mark grammar.Sort.plain = refl
as_mark (grammar.Sort.tagged tag) = refl
as_mark (grammar.Sort.typed iri) = which (same_text_lem iri xsd_string) refl
  where
    which : (x : Bool) → same_text_lem iri xsd_string ≡ x →
        mark_bytes (cond x grammar.Sort.plain (grammar.Sort.typed iri)) ≡ cond x [] (0x5E ∷ 0x5E ∷ 0x3C ∷ (text_bytes iri ++ (0x3E ∷ [])))
    which true e = refl
    which false e = rw e refl

pub as_text : (t : grammar.Term) → text_of_term (as_term t) ≡ text_of_term t
unfolding text_of_term as_term
as_text (grammar.Term.name iri) = refl
as_text (grammar.Term.blank label) = refl
as_text (grammar.Term.literal chars sort) = ap (λ (l : List ℕ). 0x22 ∷ (canonical_bytes chars ++ (0x22 ∷ l))) (as_mark sort)

as_sort_lem : (t : grammar.Term) → sort_of_term (as_term t) ≡ sort_of_term t
unfolding sort_of_term as_term
as_sort_lem (grammar.Term.name iri) = refl
as_sort_lem (grammar.Term.blank label) = refl
as_sort_lem (grammar.Term.literal chars sort) = refl

pub sort-few : (t : grammar.Term) → sort_of_term t ≤ 2
unfolding sort_of_term
sort-few (grammar.Term.name iri) = omega arith
sort-few (grammar.Term.blank label) = omega arith
sort-few (grammar.Term.literal chars sort) = omega arith

-- ---- what a term's text reads to

-- a text's source: the characters of it with its marks
twin_source : {t : grammar.Term} (w : Twin t) → chars_of (marked (sort_of_term t) (text_of_term t)) ≡ w.source
twin_source w = ap chars_of (sym w.written) ∙ chars-of_text w.source (object-all w.has)

pub text-read : {source : List ℕ} {t : grammar.Term} → grammar.Object source t → meant_by (read_of (sort_of_term t) (text_of_term t)) ≡ as_term t
text-read d = let w = twin d in ap (λ (l : List ℕ). meant_by (source_of l)) (twin_source w) ∙ (read-alone w.has).meant

text-legal_read : {source : List ℕ} {t : grammar.Term} → grammar.Object source t → LegalRead (sort_of_term t) (text_of_term t)
text-legal_read {t = t} d =
    let w = twin d in
    let a = read-alone w.has in
    let sort : (read_of (sort_of_term t) (text_of_term t)).sort ≡ sort_of_term t
    = ap (λ (l : List ℕ). (source_of l).sort) (twin_source w) ∙ a.sort_is ∙ as_sort_lem t in
    record {
      is_term = omega (arith, sort, sort-few t);
      sort_is = sort;
      whole = ap (λ (l : List ℕ). (source_of l).tail) (twin_source w) ∙ a.tail_is;
      text_is = ap text_of_term (text-read d) ∙ as_text t;
    }

-- ---- L2

-- "reading could give it"
pub text-legal : {source : List ℕ} {t : grammar.Term} → grammar.Object source t → is_legal_text (sort_of_term t) (text_of_term t) ≡ true
text-legal {t = t} d = read-legal (sort_of_term t) (text_of_term t) (text-legal_read d)

pub record TextOf (sort : ℕ) (text : List ℕ) : Type 0 where
  pub term : grammar.Term
  pub has : Has term
  pub sort_is : sort_of_term term ≡ sort
  pub text_is : text_of_term term ≡ text

pub legal-text : (sort : ℕ) (text : List ℕ) → is_legal_text sort text ≡ true → TextOf sort text
legal-text sort text h =
    let r = legal-read sort text h in
    let s = shape_of (chars_of (marked sort text)) r.is_term in
    let has = shape_has s in
    let meant = shape_meant s in
    record {
      term = term_of s;
      has = has;
      sort_is = shape_sort s ∙ r.sort_is;
      text_is = ap text_of_term (sym meant) ∙ r.text_is;
    }

pub legal-exactly : (sort : ℕ) (text : List ℕ) → (is_legal_text sort text ≡ true) ↔ TextOf sort text
legal-exactly sort text = (
  legal-text sort text,
  λ t. subst (λ (n : ℕ). is_legal_text n text ≡ true) t.sort_is (subst (λ (l : List ℕ). is_legal_text (sort_of_term t.term) l ≡ true) t.text_is (text-legal t.has.1)),
)

-- a legal text as it is written
pub legal-twin : (sort : ℕ) (text : List ℕ) → is_legal_text sort text ≡ true → (t : grammar.Term) × (Twin t × (sort_of_term t ≡ sort) × (text_of_term t ≡ text))
legal-twin sort text h = let t = legal-text sort text h in (t.term, (twin t.has.1, t.sort_is, t.text_is))

-- "No legal text is empty"
some_bytes : (c : ℕ) (cs : List ℕ) → 1 ≤ length (text_bytes (c ∷ cs))
unfolding text_bytes
some_bytes c cs = omega (arith, length-append (char_bytes c) (text_bytes cs), (size_few c).0)

iri-some : {source iri : List ℕ} → grammar.IRIREF source iri → 1 ≤ length (text_bytes iri)
unfolding grammar.is_absolute
iri-some (grammar.IRIREF.iriref {iri = []} d abs is) = absurd (false≢true abs)
iri-some (grammar.IRIREF.iriref {iri = c ∷ cs} d abs is) = some_bytes c cs

label-some : {source label : List ℕ} → grammar.BLANK source label → 1 ≤ length (text_bytes label)
label-some (grammar.BLANK.blank (grammar.Label.one {c = c} e)) = some_bytes c []
label-some (grammar.BLANK.blank (grammar.Label.longer {c = c} {cs = cs} e d)) = some_bytes c cs

literal-some : (chars : List ℕ) (sort : grammar.Sort) → 1 ≤ length (text_of_term (grammar.Term.literal chars sort))
unfolding text_of_term
literal-some chars sort = omega arith

literal-has : {source : List ℕ} {t : grammar.Term} → grammar.Literal source t → 1 ≤ length (text_of_term t)
literal-has (grammar.Literal.bare {chars = chars} d) = literal-some chars grammar.Sort.plain
literal-has (grammar.Literal.with_tag {chars = chars} {language = language} d w g whole) = literal-some chars (grammar.Sort.tagged language)
literal-has (grammar.Literal.with_type {chars = chars} {iri = iri} d w u g whole) = literal-some chars (grammar.Sort.typed iri)

object-some : {source : List ℕ} {t : grammar.Term} → grammar.Object source t → 1 ≤ length (text_of_term t)
unfolding text_of_term
object-some (grammar.Object.iri d) = iri-some d
object-some (grammar.Object.label d) = label-some d
object-some (grammar.Object.lit d) = literal-has d

pub legal-some : (sort : ℕ) (text : List ℕ) → is_legal_text sort text ≡ true → 1 ≤ length text
legal-some sort text h = let t = legal-text sort text h in subst (λ (l : List ℕ). 1 ≤ length l) t.text_is (object-some t.has.1)

pub empty-illegal : (sort : ℕ) → is_legal_text sort [] ≡ false
empty-illegal sort = which (is_legal_text sort []) refl
  where
    which : (x : Bool) → is_legal_text sort [] ≡ x → is_legal_text sort [] ≡ false
    which true e = absurd (let h = legal-some sort [] e in omega arith)
    which false e = e

-- ---- L1, N16, N17

-- "equal terms have equal bytes"
pub same-term_text : (s t : grammar.Term) → SameTerm s t → text_of_term s ≡ text_of_term t
same-term_text s t e = sym (as_text s) ∙ ap text_of_term e ∙ as_text t

-- "unequal terms of one sort unequal bytes"
pub same_text-term : (s t : grammar.Term) → Has s → Has t → sort_of_term s ≡ sort_of_term t → text_of_term s ≡ text_of_term t → SameTerm s t
same_text-term s t hs ht sort text =
    sym (text-read hs.1)
    ∙ ap (λ (n : ℕ). meant_by (read_of n (text_of_term s))) sort
    ∙ ap (λ (l : List ℕ). meant_by (read_of (sort_of_term t) l)) text
    ∙ text-read ht.1

pub texts_exactly : (s t : grammar.Term) → Has s → Has t → sort_of_term s ≡ sort_of_term t → (text_of_term s ≡ text_of_term t) ↔ SameTerm s t
texts_exactly s t hs ht sort = (same_text-term s t hs ht sort, same-term_text s t)
