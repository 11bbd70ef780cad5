-- One character of a source more: what it lays, and what is left. Assumes nothing.
use mathlib.Core.Path.{◌≡◌, refl, sym, ap, subst, ◌∙◌}
use mathlib.Core.Bool.{Bool, true, false}
use mathlib.Core.List.{List, ◌∷◌, ◌++◌}
use Prim.Native.Nat.{ℕ}
use lib.Dec.{eqb}
use borrow.Author.Tests.{eq-eqb, ne_eqb}
use Rattle.utf8.specs.Characters.{is_character_lem}
use Rattle.utf8.specs.Texts.{seen, AllCharacters, SeenAt}
use Rattle.ntline.specs.declared.escapes.Fed.{Fed}
use Rattle.ntline.specs.Escapes.{part, fed_by, given, kept, resolved}
use Rattle.std.specs.Prelude.{Some, None}
use Rattle.nttext.specs.declared.texts.Written.{Written}
use Rattle.nttext.specs.declared.texts.Cursor.{Cursor}
use Rattle.nttext.specs.Texts.{canonical}
use Rattle.nttext.specs.Laying.{is_dropped, unit_bytes, laid}
use Rattle.nttext.specs.Inner.{cursor_at, Canonical, Given, Advanced}

-- ---- one character more

module _ (b : List ℕ) (end : ℕ) (quoted : Bool) (k : Cursor) (v n : ℕ) (s : SeenAt b k.at end v n) (f : Fed) (is : f ≡ fed_by k.left k.number v) where
  laid-step : laid quoted k.left k.number (seen b k.at end)
      ≡ unit_bytes quoted k.left f.out ++ laid quoted (kept f.out f.left) (kept f.out f.value) (seen b n end)
  unfolding laid
  laid-step = ap (laid quoted k.left k.number) s.here ∙ rw is refl

  given-step : resolved k.left k.number (seen b k.at end)
      ≡ given f.out (resolved (kept f.out f.left) (kept f.out f.value) (seen b n end))
  unfolding resolved
  given-step = ap (resolved k.left k.number) s.here ∙ rw is refl

  pub advance_part : f.out ≡ part → Advanced b end quoted k (cursor_at n f.left f.value None)
  advance_part e =
      let same : resolved k.left k.number (seen b k.at end) ≡ resolved f.left f.value (seen b n end) = given-step ∙ rw e refl in
      record {
        later = s.later;
        within = s.within;
        lays = laid-step ∙ rw e refl;
        good = λ g. tt;
        goes = λ g. subst AllCharacters same g;
        over = λ w x. cc;
      }

  module _ (no : f.out ≡ part → ⊥) where
    test : eqb f.out part ≡ false
    test = ne_eqb f.out part no

    out_given : Given k.left k.number (seen b k.at end) → (is_character_lem f.out ≡ true) × Given 0 0 (seen b n end)
    out_given g =
        let same : resolved k.left k.number (seen b k.at end) ≡ f.out ∷ resolved 0 0 (seen b n end) = given-step ∙ rw test refl in
        subst AllCharacters same g

    -- white space dropped, or a character by itself
    pub advance_dropped : k.left ≡ 0 → is_dropped quoted f.out ≡ true → (r : Cursor) → r ≡ cursor_at n 0 0 None → Advanced b end quoted k r
    advance_dropped zero dropped r is-r =
        rw is-r
        (record {
          later = s.later;
          within = s.within;
          lays = laid-step ∙ rw (test, eq-eqb k.left 0 zero, dropped) refl;
          good = λ g. tt;
          goes = λ g. (out_given g).1;
          over = λ w x. cc;
        })

    pub advance_raw : k.left ≡ 0 → is_dropped quoted f.out ≡ false → (r : Cursor) → r ≡ cursor_at n 0 0 (Some (record { slash = false; value = f.out })) →
        Advanced b end quoted k r
    advance_raw zero here r is-r =
        rw is-r
        (record {
          later = s.later;
          within = s.within;
          lays = laid-step ∙ rw (test, eq-eqb k.left 0 zero, here) refl;
          good = λ g. (out_given g).0;
          goes = λ g. (out_given g).1;
          over = λ w x. (refl, refl);
        })

    pub advance_escaped : (k.left ≡ 0 → ⊥) → (w : Written) → Canonical f.out w → (r : Cursor) → r ≡ cursor_at n 0 0 (Some w) →
        Advanced b end quoted k r
    advance_escaped some w c r is-r =
        let lays : laid quoted k.left k.number (seen b k.at end) ≡ canonical f.out ++ laid quoted 0 0 (seen b n end)
        = laid-step ∙ rw (test, ne_eqb k.left 0 some) refl in
        rw is-r
        (record {
          later = s.later;
          within = s.within;
          lays = lays ∙ ap (λ (l : List ℕ). l ++ laid quoted 0 0 (seen b n end)) (sym c.bytes_are);
          good = λ g. c.good (out_given g).0;
          goes = λ g. (out_given g).1;
          over = λ v x. (refl, refl);
        })
