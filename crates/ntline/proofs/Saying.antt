-- What the grammar has is read, and to what the grammar says that it means: every line that says something is heard so. Assumes nothing.
use mathlib.Core.Path.{◌≡◌, refl}
use mathlib.Core.Bool.{true, false}
use mathlib.Core.List.{List, [], ◌∷◌, ◌++◌}
use Prim.Native.Nat.{ℕ}
use lib.Dec.{eqb}
use Rattle.ntline.specs.declared.lexing.State.TheVariants.{White, Label, Letters, Alnums}
use Rattle.ntline.specs.Classes.{is_white_lem}
use Rattle.ntline.specs.Grammar as grammar
use Rattle.ntline.specs.Lexing.{step, token_is, munched, token_of}
use Rattle.ntline.specs.Lines.{spaced, is_over, is_dotted}
use Rattle.ntline.proofs.Munching.{iri-found, string-found}
use Rattle.ntline.proofs.Words.{Stops, stops_end, stops-dead, space_found, label-found, tag_found, remark_found, dot-found, hats_found}

-- ---- a terminal at the front, which no white space before it takes in
pub record Front (xs : List ℕ) (kind : ℕ) (rest : List ℕ) : Type 0 where
  pub found : token_of xs ≡ token_is kind rest
  pub solid : eqb kind 1 ≡ false
  pub stops : Stops White xs

white_at : (c : ℕ) (cs : List ℕ) → is_white_lem c ≡ false → Stops White (c ∷ cs)
unfolding step
white_at c cs e = stops-dead White c cs (rw e refl)

no_white_3_c : is_white_lem 0x3C ≡ false
unfolding is_white_lem
no_white_3_c = refl

no_white_22 : is_white_lem 0x22 ≡ false
unfolding is_white_lem
no_white_22 = refl

no_white_5_f : is_white_lem 0x5F ≡ false
unfolding is_white_lem
no_white_5_f = refl

no_white_40 : is_white_lem 0x40 ≡ false
unfolding is_white_lem
no_white_40 = refl

no_white_5_e : is_white_lem 0x5E ≡ false
unfolding is_white_lem
no_white_5_e = refl

no_white_2_e : is_white_lem 0x2E ≡ false
unfolding is_white_lem
no_white_2_e = refl

no_white_23 : is_white_lem 0x23 ≡ false
unfolding is_white_lem
no_white_23 = refl

pub iri-front : {s iri : List ℕ} → grammar.IRIREF s iri → (rest : List ℕ) → Front (s ++ rest) 7 rest
iri-front {s = s} (grammar.IRIREF.iriref {inside = inside} d abs is) rest =
    record {
      found = iri-found (grammar.IRIREF.iriref {inside = inside} d abs is) rest;
      solid = refl;
      stops = rw is (white_at 0x3C ((inside ++ (0x3E ∷ [])) ++ rest) no_white_3_c);
    }

pub string-front : {s chars : List ℕ} → grammar.STRING s chars → (rest : List ℕ) → Front (s ++ rest) 8 rest
string-front {s = s} (grammar.STRING.string {inside = inside} d is) rest =
    record {
      found = string-found (grammar.STRING.string {inside = inside} d is) rest;
      solid = refl;
      stops = rw is (white_at 0x22 ((inside ++ (0x22 ∷ [])) ++ rest) no_white_22);
    }

pub label-front : {s label : List ℕ} → grammar.BLANK s label → (rest : List ℕ) → Stops Label rest → Front (s ++ rest) 5 rest
label-front (grammar.BLANK.blank {label = label} d) rest stop =
    record {
      found = label-found (grammar.BLANK.blank d) rest stop;
      solid = refl;
      stops = white_at 0x5F (0x3A ∷ (label ++ rest)) no_white_5_f;
    }

pub tag_front : {s tag : List ℕ} → grammar.LANGTAG s tag → (rest : List ℕ) → Stops Letters rest → Stops Alnums rest → Front (s ++ rest) 6 rest
tag_front (grammar.LANGTAG.langtag {c = c} {cs = cs} e d) rest stop stop' =
    record {
      found = tag_found (grammar.LANGTAG.langtag e d) rest stop stop';
      solid = refl;
      stops = white_at 0x40 (c ∷ (cs ++ rest)) no_white_40;
    }

pub hats_front : (rest : List ℕ) → Front (0x5E ∷ 0x5E ∷ rest) 3 rest
hats_front rest = record { found = hats_found rest; solid = refl; stops = white_at 0x5E (0x5E ∷ rest) no_white_5_e }

pub dot-front : (rest : List ℕ) → Front (0x2E ∷ rest) 2 rest
dot-front rest = record { found = dot-found rest; solid = refl; stops = white_at 0x2E rest no_white_2_e }

end_token : token_of [] ≡ token_is 0 []
unfolding token_of munched
end_token = refl

-- ---- white space before it
pub spaced-front : {w : List ℕ} → grammar.White w → (xs : List ℕ) (kind : ℕ) (rest : List ℕ) → Front xs kind rest → spaced (w ++ xs) ≡ xs
unfolding spaced
spaced-front grammar.White.none xs kind rest f = rw (f.found, f.solid) refl
spaced-front (grammar.White.more {c = c} {cs = cs} e d) xs kind rest f = rw (space_found c cs xs e d f.stops) refl

-- ---- the end of a line
pub is_over_lem : {w comment : List ℕ} → grammar.White w → grammar.Comment comment → is_over (w ++ comment) ≡ true
unfolding is_over
is_over_lem {w = w} d grammar.Comment.none =
    let e : spaced (w ++ []) ≡ [] = spaced-front d [] 0 [] (record { found = end_token; solid = refl; stops = stops_end White }) in
    rw e refl
is_over_lem {w = w} d (grammar.Comment.comment {cs = cs} chars) =
    let e : spaced (w ++ (0x23 ∷ cs)) ≡ 0x23 ∷ cs
    = spaced-front d (0x23 ∷ cs) 4 [] (record { found = remark_found chars; solid = refl; stops = white_at 0x23 cs no_white_23 }) in
    rw (e, remark_found chars) refl

pub is-dotted : {before after comment : List ℕ} → grammar.White before → grammar.White after → grammar.Comment comment →
    is_dotted (before ++ (0x2E ∷ (after ++ comment))) ≡ true
unfolding is_dotted
is-dotted {after = after} {comment = comment} b a k =
    rw (spaced-front b (0x2E ∷ (after ++ comment)) 2 (after ++ comment) (dot-front (after ++ comment)), dot-found (after ++ comment), is_over_lem a k) refl
