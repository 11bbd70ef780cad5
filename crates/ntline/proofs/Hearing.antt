-- Every line that the grammar has is heard as what the grammar says that it means; so it means one thing. Assumes nothing.
use mathlib.Core.Path.{◌≡◌, refl, sym, ap, subst, ◌∙◌}
use mathlib.Core.Bool.{Bool, true, false}
use mathlib.Core.List.{List, [], ◌∷◌, ◌++◌, append_assoc, append-nil}
use Prim.Native.Nat.{ℕ, ◌-◌}
use native.Mathlib.Omega.{arith}
use lib.ListN.{length, drop, length-append}
use lib.Seq.{take-append_seam}
use lib.Dec.{eqb}
use borrow.Author.Tests.{eqb-true}
use Rattle.ntline.specs.declared.lexing.State.{State}
use Rattle.ntline.specs.declared.lexing.State.TheVariants.{Dead, Label, Dots, Letters, Alnums}
use Rattle.ntline.specs.Classes.{is_white_lem, is_alpha_lem, is_digit_lem, is_alnum_lem, is_base, is_name_start, is_name_char_lem}
use Rattle.ntline.specs.Grammar as grammar
use Rattle.ntline.specs.Escapes.{resolved}
use Rattle.ntline.specs.Lexing.{in_label, step, Token, munched, token_of}
use Rattle.ntline.specs.Lines.{spaced, source, typed_of, literal_of, source_of, up_to, inner, mark_of, meant_by}
use Rattle.ntline.proofs.Bools.{second}
use Rattle.ntline.proofs.Resolving.{iri-resolved, string-resolved}
use Rattle.ntline.proofs.Munching.{munched-on}
use Rattle.ntline.proofs.Words.{Stops, stops_end, stops-dead, label-dot, kind-dots}
use Rattle.ntline.proofs.Spans.{source-iri, source-label, source-string, literal-tag, literal-hats, literal-bare, typed_iri}
use Rattle.ntline.proofs.Saying.{iri-front, string-front, label-front, tag_front, hats_front, dot-front, spaced-front}

-- ---- what follows a label or a tag does not go on with it

white_case : (P : ℕ → Type 0) (c : ℕ) → is_white_lem c ≡ true → P 0x20 → P 0x9 → P c
unfolding is_white_lem
white_case P c e blank tab = which (eqb c 0x20) refl
  where
    which : (x : Bool) → eqb c 0x20 ≡ x → P c
    which true h = subst P (sym (eqb-true c 0x20 h)) blank
    which false h = subst P (sym (eqb-true c 0x9 (second (eqb c 0x20) (eqb c 0x9) h e))) tab

label-white : (c : ℕ) → is_white_lem c ≡ true → step Label c ≡ Dead
unfolding step in_label is_name_char_lem is_name_start is_base is_alpha_lem is_digit_lem
label-white c e = white_case (λ (n : ℕ). step Label n ≡ Dead) c e refl refl

dots_white : (c : ℕ) → is_white_lem c ≡ true → step Dots c ≡ Dead
unfolding step in_label is_name_char_lem is_name_start is_base is_alpha_lem is_digit_lem
dots_white c e = white_case (λ (n : ℕ). step Dots n ≡ Dead) c e refl refl

letters_white : (c : ℕ) → is_white_lem c ≡ true → step Letters c ≡ Dead
unfolding step is_alpha_lem
letters_white c e = white_case (λ (n : ℕ). step Letters n ≡ Dead) c e refl refl

alnums_white : (c : ℕ) → is_white_lem c ≡ true → step Alnums c ≡ Dead
unfolding step is_alnum_lem is_alpha_lem is_digit_lem
alnums_white c e = white_case (λ (n : ℕ). step Alnums n ≡ Dead) c e refl refl

label-angle : step Label 0x3C ≡ Dead
unfolding step in_label is_name_char_lem is_name_start is_base is_alpha_lem is_digit_lem
label-angle = refl

dots_hash : step Dots 0x23 ≡ Dead
unfolding step in_label is_name_char_lem is_name_start is_base is_alpha_lem is_digit_lem
dots_hash = refl

letters_dot : step Letters 0x2E ≡ Dead
unfolding step is_alpha_lem
letters_dot = refl

alnums_dot : step Alnums 0x2E ≡ Dead
unfolding step is_alnum_lem is_alpha_lem is_digit_lem
alnums_dot = refl

-- white space stops it, else what stands behind
stops-behind : (s : State) → ((c : ℕ) → is_white_lem c ≡ true → step s c ≡ Dead) → {w : List ℕ} → grammar.White w → (xs : List ℕ) → Stops s xs → Stops s (w ++ xs)
stops-behind s h grammar.White.none xs stop = stop
stops-behind s h (grammar.White.more {c = c} {cs = cs} e d) xs stop = stops-dead s c (cs ++ xs) (h c e)

dots_comment : {comment : List ℕ} → grammar.Comment comment → Stops Dots comment
dots_comment grammar.Comment.none = stops_end Dots
dots_comment (grammar.Comment.comment {cs = cs} d) = stops-dead Dots 0x23 cs dots_hash

module _ {before after comment : List ℕ} (b : grammar.White before) (a : grammar.White after) (k : grammar.Comment comment) where
  pub label-stops : Stops Label (before ++ (0x2E ∷ (after ++ comment)))
  label-stops =
      stops-behind Label label-white b (0x2E ∷ (after ++ comment))
      (λ kind left. munched-on Label Dots kind left 0x2E (after ++ comment) label-dot kind-dots
      ∙ stops-behind Dots dots_white a comment (dots_comment k) kind left)

  pub letters_stops : Stops Letters (before ++ (0x2E ∷ (after ++ comment)))
  letters_stops = stops-behind Letters letters_white b (0x2E ∷ (after ++ comment)) (stops-dead Letters 0x2E (after ++ comment) letters_dot)

  pub alnums_stops : Stops Alnums (before ++ (0x2E ∷ (after ++ comment)))
  alnums_stops = stops-behind Alnums alnums_white b (0x2E ∷ (after ++ comment)) (stops-dead Alnums 0x2E (after ++ comment) alnums_dot)

pub label-before : {between predicate iri : List ℕ} → grammar.White between → grammar.IRIREF predicate iri → (rest : List ℕ) → Stops Label (between ++ (predicate ++ rest))
label-before {predicate = predicate} w (grammar.IRIREF.iriref {inside = inside} d abs is) rest =
    stops-behind Label label-white w (predicate ++ rest) (rw is (stops-dead Label 0x3C ((inside ++ (0x3E ∷ [])) ++ rest) label-angle))

-- ---- sources

module _ {w : List ℕ} (white : grammar.White w) where
  pub name_source : {s iri : List ℕ} → grammar.IRIREF s iri → (rest : List ℕ) → source_of (w ++ (s ++ rest)) ≡ source 0 (s ++ rest) rest rest
  name_source {s = s} d rest =
      let f = iri-front d rest in
      let sp = spaced-front white (s ++ rest) 7 rest f in
      source-iri (w ++ (s ++ rest)) (ap (λ (l : List ℕ). (token_of l).kind) sp ∙ ap (λ (t : Token). t.kind) f.found) ∙ rw (sp, f.found) refl

  pub blank-source : {s label : List ℕ} → grammar.BLANK s label → (rest : List ℕ) → Stops Label rest → source_of (w ++ (s ++ rest)) ≡ source 1 (s ++ rest) rest rest
  blank-source {s = s} d rest stop =
      let f = label-front d rest stop in
      let sp = spaced-front white (s ++ rest) 5 rest f in
      source-label (w ++ (s ++ rest)) (ap (λ (l : List ℕ). (token_of l).kind) sp ∙ ap (λ (t : Token). t.kind) f.found) ∙ rw (sp, f.found) refl

  pub string-source : {s chars : List ℕ} → grammar.STRING s chars → (rest : List ℕ) → source_of (w ++ (s ++ rest)) ≡ literal_of (s ++ rest) rest
  string-source {s = s} d rest =
      let f = string-front d rest in
      let sp = spaced-front white (s ++ rest) 8 rest f in
      source-string (w ++ (s ++ rest)) (ap (λ (l : List ℕ). (token_of l).kind) sp ∙ ap (λ (t : Token). t.kind) f.found) ∙ rw (sp, f.found) refl

  -- behind a string, with this white space before what stands there
  pub bare-literal : (from rest : List ℕ) → literal_of from (w ++ (0x2E ∷ rest)) ≡ source 2 from (w ++ (0x2E ∷ rest)) (w ++ (0x2E ∷ rest))
  bare-literal from rest =
      let f = dot-front rest in
      let sp = spaced-front white (0x2E ∷ rest) 2 rest f in
      let two : (token_of (spaced (w ++ (0x2E ∷ rest)))).kind ≡ 2
      = ap (λ (l : List ℕ). (token_of l).kind) sp ∙ ap (λ (t : Token). t.kind) f.found in
      literal-bare from (w ++ (0x2E ∷ rest))
      (λ (x : (token_of (spaced (w ++ (0x2E ∷ rest)))).kind ≡ 6). omega (arith, two, x))
      (λ (x : (token_of (spaced (w ++ (0x2E ∷ rest)))).kind ≡ 3). omega (arith, two, x))

  pub tagged_literal : {tag language : List ℕ} → grammar.LANGTAG tag language → (from rest : List ℕ) → Stops Letters rest → Stops Alnums rest →
      literal_of from (w ++ (tag ++ rest)) ≡ source 2 from (w ++ (tag ++ rest)) rest
  tagged_literal {tag = tag} d from rest x y =
      let f = tag_front d rest x y in
      let sp = spaced-front white (tag ++ rest) 6 rest f in
      literal-tag from (w ++ (tag ++ rest)) (ap (λ (l : List ℕ). (token_of l).kind) sp ∙ ap (λ (t : Token). t.kind) f.found) ∙ rw (sp, f.found) refl

  pub typed_literal : {more datatype iri : List ℕ} → grammar.White more → grammar.IRIREF datatype iri → (from rest : List ℕ) →
      literal_of from (w ++ (0x5E ∷ 0x5E ∷ (more ++ (datatype ++ rest)))) ≡ source 2 from (w ++ (0x5E ∷ 0x5E ∷ (more ++ (datatype ++ rest)))) rest
  typed_literal {more = more} {datatype = datatype} u d from rest =
      let behind : List ℕ = more ++ (datatype ++ rest) in
      let f = hats_front behind in
      let sp = spaced-front white (0x5E ∷ 0x5E ∷ behind) 3 behind f in
      let g = iri-front d rest in
      let sq = spaced-front u (datatype ++ rest) 7 rest g in
      literal-hats from (w ++ (0x5E ∷ 0x5E ∷ behind)) (ap (λ (l : List ℕ). (token_of l).kind) sp ∙ ap (λ (t : Token). t.kind) f.found)
      ∙ ap (λ (l : List ℕ). typed_of from (w ++ (0x5E ∷ 0x5E ∷ behind)) l) (ap (λ (l : List ℕ). (token_of l).rest) sp ∙ ap (λ (t : Token). t.rest) f.found)
      ∙ typed_iri from (w ++ (0x5E ∷ 0x5E ∷ behind)) behind (ap (λ (l : List ℕ). (token_of l).kind) sq ∙ ap (λ (t : Token). t.kind) g.found)
      ∙ ap (λ (l : List ℕ). source 2 from (w ++ (0x5E ∷ 0x5E ∷ behind)) l) (ap (λ (l : List ℕ). (token_of l).rest) sq ∙ ap (λ (t : Token). t.rest) g.found)

-- ---- what a source means

pub up-to : (s rest : List ℕ) → up_to (s ++ rest) rest ≡ s
unfolding up_to
up-to s rest =
    let e : length (s ++ rest) - length rest ≡ length s = omega (arith, length-append s rest) in
    rw e (take-append_seam s rest)

pub inner-is : (a z : ℕ) (mid : List ℕ) → inner (a ∷ (mid ++ (z ∷ []))) ≡ mid
unfolding inner
inner-is a z mid =
    let e : length (a ∷ (mid ++ (z ∷ []))) - 2 ≡ length mid = omega (arith, length-append mid (z ∷ [])) in
    rw e (take-append_seam mid (z ∷ []))

pub iri-inner : {s iri : List ℕ} → grammar.IRIREF s iri → resolved 0 0 (inner s) ≡ iri
iri-inner (grammar.IRIREF.iriref {inside = inside} d abs is) =
    ap (λ (l : List ℕ). resolved 0 0 (inner l)) is ∙ ap (resolved 0 0) (inner-is 0x3C 0x3E inside) ∙ iri-resolved d

pub string-inner : {s chars : List ℕ} → grammar.STRING s chars → resolved 0 0 (inner s) ≡ chars
string-inner (grammar.STRING.string {inside = inside} d is) =
    ap (λ (l : List ℕ). resolved 0 0 (inner l)) is ∙ ap (resolved 0 0) (inner-is 0x22 0x22 inside) ∙ string-resolved d

pub meant_name : {s iri : List ℕ} → grammar.IRIREF s iri → (rest : List ℕ) → meant_by (source 0 (s ++ rest) rest rest) ≡ grammar.Term.name iri
unfolding meant_by
meant_name {s = s} d rest = ap (λ (l : List ℕ). grammar.Term.name (resolved 0 0 (inner l))) (up-to s rest) ∙ ap grammar.Term.name (iri-inner d)

pub meant_blank : {s label : List ℕ} → grammar.BLANK s label → (rest : List ℕ) → meant_by (source 1 (s ++ rest) rest rest) ≡ grammar.Term.blank label
unfolding meant_by
meant_blank (grammar.BLANK.blank {label = label} d) rest =
    ap (λ (l : List ℕ). grammar.Term.blank (drop 2 l)) (up-to (0x5F ∷ 0x3A ∷ label) rest)

-- a literal: its string, and its mark as it stands behind white space
pub meant_literal : {s chars : List ℕ} → grammar.STRING s chars → (behind tail : List ℕ) (sort : grammar.Sort) → mark_of (spaced (up_to behind tail)) ≡ sort →
    meant_by (source 2 (s ++ behind) behind tail) ≡ grammar.Term.literal chars sort
unfolding meant_by
meant_literal {s = s} {chars = chars} d behind tail sort e =
    ap (λ (l : List ℕ). grammar.Term.literal (resolved 0 0 (inner l)) (mark_of (spaced (up_to behind tail)))) (up-to s behind)
    ∙ ap (λ (l : List ℕ). grammar.Term.literal l (mark_of (spaced (up_to behind tail)))) (string-inner d)
    ∙ ap (grammar.Term.literal chars) e

pub spaced-nil : spaced [] ≡ []
unfolding spaced token_of munched
spaced-nil = refl

pub plain-mark : (behind : List ℕ) → mark_of (spaced (up_to behind behind)) ≡ grammar.Sort.plain
unfolding mark_of
plain-mark behind = ap (λ (l : List ℕ). mark_of (spaced l)) (up-to [] behind) ∙ ap mark_of spaced-nil

pub tag_mark : {w tag language : List ℕ} → grammar.White w → grammar.LANGTAG tag language → (rest : List ℕ) →
    mark_of (spaced (up_to (w ++ (tag ++ rest)) rest)) ≡ grammar.Sort.tagged language
unfolding mark_of
tag_mark {w = w} white (grammar.LANGTAG.langtag {c = c} {cs = cs} e d) rest =
    let tag : List ℕ = 0x40 ∷ c ∷ cs in
    let f = tag_front (grammar.LANGTAG.langtag e d) [] (stops_end Letters) (stops_end Alnums) in
    let sp : spaced (w ++ (tag ++ [])) ≡ tag ++ [] = spaced-front white (tag ++ []) 6 [] f in
    ap (λ (l : List ℕ). mark_of (spaced (up_to l rest))) (sym (append_assoc w tag rest))
    ∙ ap (λ (l : List ℕ). mark_of (spaced l)) (up-to (w ++ tag) rest)
    ∙ ap (λ (l : List ℕ). mark_of (spaced (w ++ l))) (sym (append-nil tag))
    ∙ ap mark_of sp
    ∙ ap mark_of (append-nil tag)

pub type-mark : {w more datatype iri : List ℕ} → grammar.White w → grammar.White more → grammar.IRIREF datatype iri → (rest : List ℕ) →
    mark_of (spaced (up_to (w ++ (0x5E ∷ 0x5E ∷ (more ++ (datatype ++ rest)))) rest)) ≡ grammar.Sort.typed iri
unfolding mark_of
type-mark {w = w} {more = more} {datatype = datatype} white u d rest =
    let mark : List ℕ = 0x5E ∷ 0x5E ∷ (more ++ datatype) in
    let f = hats_front (more ++ datatype) in
    let sp : spaced (w ++ mark) ≡ mark = spaced-front white mark 3 (more ++ datatype) f in
    let g = iri-front d [] in
    let sq : spaced (more ++ (datatype ++ [])) ≡ datatype ++ [] = spaced-front u (datatype ++ []) 7 [] g in
    let whole : w ++ (0x5E ∷ 0x5E ∷ (more ++ (datatype ++ rest))) ≡ (w ++ mark) ++ rest
    = ap (λ (l : List ℕ). w ++ (0x5E ∷ 0x5E ∷ l)) (sym (append_assoc more datatype rest)) ∙ sym (append_assoc w mark rest) in
    ap (λ (l : List ℕ). mark_of (spaced (up_to l rest))) whole
    ∙ ap (λ (l : List ℕ). mark_of (spaced l)) (up-to (w ++ mark) rest)
    ∙ ap mark_of sp
    ∙ ap (λ (l : List ℕ). grammar.Sort.typed (resolved 0 0 (inner (spaced (more ++ l))))) (sym (append-nil datatype))
    ∙ ap (λ (l : List ℕ). grammar.Sort.typed (resolved 0 0 (inner l))) (sq ∙ append-nil datatype)
    ∙ ap grammar.Sort.typed (iri-inner d)
