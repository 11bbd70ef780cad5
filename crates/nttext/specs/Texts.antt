-- The text of a term, as bytes, and which texts are legal.
use Rattle.std.specs.Prelude.{◌≡◌, Bool, cond, ◌&&◌, List, [], ◌∷◌, ◌++◌, ℕ, eqb, leb}
use Rattle.utf8.specs.Characters.{char_bytes, text_bytes}
use Rattle.utf8.specs.Texts.{chars_of}
use Rattle.names.specs.Entering.{same_text_lem}
use Rattle.ntwrite.specs.Written.{marked}
use Rattle.ntline.specs.Grammar.{Sort, Term, Object}
use Rattle.ntline.specs.Lines.{is_nil, source_of, meant_by}

-- "written with only `"` `\` LF CR as `\"` `\\` `\n` `\r`"
unfoldable pub canonical : ℕ → List ℕ
canonical c =
    cond (eqb c 0x22) (0x5C ∷ 0x22 ∷ [])
    (cond (eqb c 0x5C) (0x5C ∷ 0x5C ∷ [])
    (cond (eqb c 0xA) (0x5C ∷ 0x6E ∷ [])
    (cond (eqb c 0xD) (0x5C ∷ 0x72 ∷ []) (char_bytes c))))

unfoldable pub canonical_bytes : List ℕ → List ℕ
canonical_bytes [] = []
canonical_bytes (c ∷ cs) = canonical c ++ canonical_bytes cs

-- http://www.w3.org/2001/XMLSchema#string
abbrev pub xsd_string : List ℕ
xsd_string =
    0x68 ∷ 0x74 ∷ 0x74 ∷ 0x70 ∷ 0x3A ∷ 0x2F ∷ 0x2F ∷ 0x77 ∷ 0x77 ∷ 0x77 ∷ 0x2E ∷ 0x77 ∷ 0x33 ∷ 0x2E ∷ 0x6F ∷ 0x72 ∷ 0x67 ∷ 0x2F
    ∷ 0x32 ∷ 0x30 ∷ 0x30 ∷ 0x31 ∷ 0x2F ∷ 0x58 ∷ 0x4D ∷ 0x4C ∷ 0x53 ∷ 0x63 ∷ 0x68 ∷ 0x65 ∷ 0x6D ∷ 0x61 ∷ 0x23
    ∷ 0x73 ∷ 0x74 ∷ 0x72 ∷ 0x69 ∷ 0x6E ∷ 0x67 ∷ []

-- "then `@` and the tag, or `^^<` IRI `>` (left out for xsd:string)"
unfoldable pub mark_bytes : Sort → List ℕ
mark_bytes Sort.plain = []
mark_bytes (Sort.tagged tag) = 0x40 ∷ text_bytes tag
mark_bytes (Sort.typed iri) = cond (same_text_lem iri xsd_string) [] (0x5E ∷ 0x5E ∷ 0x3C ∷ (text_bytes iri ++ (0x3E ∷ [])))

-- "a name: its IRI without `<` and `>`, escapes resolved; a blank: its label without `_:`; a literal: its canonical form"
unfoldable pub text_of_term : Term → List ℕ
text_of_term (Term.name iri) = text_bytes iri
text_of_term (Term.blank label) = text_bytes label
text_of_term (Term.literal chars sort) = 0x22 ∷ (canonical_bytes chars ++ (0x22 ∷ mark_bytes sort))

-- 0 a name, 1 a blank, 2 a literal
unfoldable pub sort_of_term : Term → ℕ
sort_of_term (Term.name iri) = 0
sort_of_term (Term.blank label) = 1
sort_of_term (Term.literal chars sort) = 2

-- N16: `"x"` and `"x"^^<http://www.w3.org/2001/XMLSchema#string>` "are the same RDF 1.1 term": `"x"` stands for both
unfoldable pub as_sort : Sort → Sort
as_sort Sort.plain = Sort.plain
as_sort (Sort.tagged tag) = Sort.tagged tag
as_sort (Sort.typed iri) = cond (same_text_lem iri xsd_string) Sort.plain (Sort.typed iri)

unfoldable pub as_term : Term → Term
as_term (Term.name iri) = Term.name iri
as_term (Term.blank label) = Term.blank label
as_term (Term.literal chars sort) = Term.literal chars (as_sort sort)

abbrev pub SameTerm : Term → Term → Type 0
SameTerm s t = as_term s ≡ as_term t

-- a term that the grammar has
abbrev pub Has : Term → Type 0
Has t = (source : List ℕ) × Object source t

-- "A text is legal for a sort when reading could give it": written so, it is read as a term of the sort (0 to 2)
-- whose text it is
unfoldable pub is_legal_text : ℕ → List ℕ → Bool
is_legal_text sort text =
    let s = source_of (chars_of (marked sort text)) in
    leb sort 2 && (eqb s.sort sort && (is_nil s.tail && same_text_lem (text_of_term (meant_by s)) text))
