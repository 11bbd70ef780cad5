-- The five RDF and RDFS names are legal names. Assumes nothing.
use mathlib.Core.Path.{◌≡◌, refl, ap, subst}
use mathlib.Core.Bool.{Bool, true, ◌&&◌}
use mathlib.Core.List.{List, [], ◌∷◌}
use Prim.Native.Nat.{ℕ, zero, suc}
use lib.Dec.{leb}
use Rattle.utf8.specs.Characters.{is_character_lem, one_octet, char_bytes, text_bytes}
use Rattle.names.specs.Five.{rdf_schema, rdf_syntax, five_text}
use Rattle.names.proofs.Same.{both_true}
use Rattle.ntline.specs.Classes.{is_alpha_lem, is_digit_lem, is_alnum_lem, is_iri_char_lem, is_barred, is_scheme_char_lem}
use Rattle.ntline.specs.Grammar.{IriChars, IRIREF, Object, has_colon, is_absolute}
use Rattle.nttext.specs.Texts.{text_of_term, sort_of_term, is_legal_text}
use Rattle.nttext.proofs.LegalTexts.{text-legal}

-- a text of ASCII characters that an IRI holds
unfoldable pub are_simple : List ℕ → Bool
are_simple [] = true
are_simple (c ∷ cs) = (leb c 0x7F && is_iri_char_lem c) && are_simple cs

simple_iri : (cs : List ℕ) → are_simple cs ≡ true → IriChars cs cs
unfolding are_simple
simple_iri [] h = IriChars.none
simple_iri (c ∷ cs) h =
    let p = both_true (leb c 0x7F && is_iri_char_lem c) (are_simple cs) h in
    IriChars.raw (both_true (leb c 0x7F) (is_iri_char_lem c) p.0).1 (simple_iri cs p.1)

simple_bytes : (cs : List ℕ) → are_simple cs ≡ true → text_bytes cs ≡ cs
unfolding are_simple text_bytes char_bytes one_octet
simple_bytes [] h = refl
simple_bytes (c ∷ cs) h =
    let p = both_true (leb c 0x7F && is_iri_char_lem c) (are_simple cs) h in
    rw (both_true (leb c 0x7F) (is_iri_char_lem c) p.0).0 (ap (λ (l : List ℕ). c ∷ l) (simple_bytes cs p.1))

pub simple_legal : (cs : List ℕ) → are_simple cs ≡ true → is_absolute cs ≡ true → is_legal_text 0 cs ≡ true
unfolding sort_of_term text_of_term
simple_legal cs h abs =
    subst (λ (l : List ℕ). is_legal_text 0 l ≡ true) (simple_bytes cs h) (text-legal (Object.iri (IRIREF.iriref (simple_iri cs h) abs refl)))

five_simple : (n : ℕ) → (are_simple (five_text n) ≡ true) × (is_absolute (five_text n) ≡ true)
unfolding are_simple is_absolute has_colon is_alpha_lem is_digit_lem is_alnum_lem is_scheme_char_lem is_iri_char_lem is_barred is_character_lem five_text rdf_schema rdf_syntax
five_simple zero = (refl, refl)
five_simple (suc zero) = (refl, refl)
five_simple (suc (suc zero)) = (refl, refl)
five_simple (suc (suc (suc zero))) = (refl, refl)
five_simple (suc (suc (suc (suc n)))) = (refl, refl)

pub five_legal : (n : ℕ) → is_legal_text 0 (five_text n) ≡ true
five_legal n = let s = five_simple n in simple_legal (five_text n) s.0 s.1
