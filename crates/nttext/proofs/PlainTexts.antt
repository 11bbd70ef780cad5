-- Texts that are plain bytes are legal: the lexer's states go through them. Assumes nothing.
use mathlib.Core.Path.{◌≡◌, refl, ap, ◌∙◌}
use mathlib.Core.Bool.{true, false}
use mathlib.Core.List.{List}
use Prim.Native.Nat.{ℕ, ◌+◌, ◌-◌, ◌≤◌, ◌<◌}
use native.Mathlib.Omega.{arith}
use lib.Dec.{eqb}
use lib.ListN.{length, get_or}
use lib.Seq.{slice}
use borrow.Author.Tests.{ne_eqb}
use Rattle.utf8.specs.Texts.{seen}
use Rattle.ntline.specs.declared.lexing.State.{State}
use Rattle.ntline.specs.declared.lexing.State.TheVariants.{Colon, Label, Iri}
use Rattle.ntline.specs.Classes.{is_alpha_lem, is_digit_lem, is_base, is_name_start, is_name_char_lem, is_label_start_lem}
use Rattle.ntline.specs.Lexing.{in_label, step, kind_of}
use Rattle.ntline.specs.Runs.{plain_byte, label_byte, Run, Still, SchemeTo}
use Rattle.ntline.proofs.Passing.{low-seen, walk_to, none_of, alpha_low, label-low, label-name, iri-run}
use Rattle.ntline.proofs.Tokens.{letter-begins, colon-goes, iri-closes, kind-iri_end}
use Rattle.nttext.specs.Texts.{is_legal_text}
use Rattle.nttext.specs.Inner.{bare_run}
use Rattle.nttext.proofs.Runs.{seen_end}
use Rattle.nttext.proofs.LegalStates.{legal-name, legal-blank}

module _ (b : List ℕ) (end : ℕ) (long : end ≤ length b) where
  -- one byte more
  bare-byte : (s t : State) (at : ℕ) → at < end → get_or b at 0 < 0x80 → (get_or b at 0 ≡ 0x5C → ⊥) → step s (get_or b at 0) ≡ t →
      bare_run s (seen b at end) ≡ bare_run t (seen b (at + 1) end)
  unfolding bare_run
  bare-byte s t at h low bare e = ap (bare_run s) (low-seen b at end h long low) ∙ rw (ne_eqb (get_or b at 0) 0x5C bare, e) refl

  -- bytes that change nothing
  bare-still : (s : State) (at to : ℕ) → at ≤ to → to ≤ end → ((k : ℕ) → at ≤ k → k < to → Still s (get_or b k 0)) → bare_run s (seen b at end) ≡ bare_run s (seen b to end)
  bare-still s at to h inside still =
      walk_to (λ (k : ℕ). bare_run s (seen b at end) ≡ bare_run s (seen b k end)) at to h refl
      (λ k l m q. let x = still k l m in q ∙ bare-byte s s k (omega arith) x.low x.bare x.same)

  bare-end : (s : State) (at : ℕ) → at ≡ end → bare_run s (seen b at end) ≡ s
  unfolding bare_run
  bare-end s at e = ap (bare_run s) (seen_end b at end e)

alpha_slash : is_alpha_lem 0x5C ≡ false
unfolding is_alpha_lem
alpha_slash = refl

colon-bare : (x : ℕ) → x ≡ 0x3A → x ≡ 0x5C → ⊥
colon-bare x e f = omega arith

module _ (b : List ℕ) (from to : ℕ) (long : to ≤ length b) where
  -- a scheme, its colon and plain bytes
  name_run : (behind run : ℕ) → SchemeTo b from to behind → Run (plain_byte false) b behind to run → run ≡ to → bare_run (Iri 0 0 0) (seen b from to) ≡ Iri 2 0 0
  name_run behind run s r e =
      let later = s.later in
      let inside = s.within in
      let x = get_or b from 0 in
      let scheme = s.inside in
      let colon = s.colon in
      let back : behind - 1 + 1 ≡ behind = omega arith in
      let rest = iri-run b behind to run r in
      bare-byte b to long (Iri 0 0 0) (Iri 1 0 0) from (omega arith) (alpha_low x s.letter) (none_of is_alpha_lem x 0x5C s.letter alpha_slash) (letter-begins x s.letter)
      ∙ bare-still b to long (Iri 1 0 0) (from + 1) (behind - 1) scheme.later scheme.within scheme.still
      ∙ bare-byte b to long (Iri 1 0 0) (Iri 2 0 0) (behind - 1) (omega arith) (omega arith) (colon-bare (get_or b (behind - 1) 0) colon) (ap (step (Iri 1 0 0)) colon ∙ colon-goes)
      ∙ ap (λ (n : ℕ). bare_run (Iri 2 0 0) (seen b n to)) back
      ∙ bare-still b to long (Iri 2 0 0) behind run rest.later rest.within rest.still
      ∙ bare-end b to long (Iri 2 0 0) run e

  pub plain-name : (behind run : ℕ) → SchemeTo b from to behind → Run (plain_byte false) b behind to run → run ≡ to → is_legal_text 0 (slice from to b) ≡ true
  plain-name behind run s r e =
      legal-name (slice from to b)
      ∙ ap (λ (t : State). eqb (kind_of (step t 0x3E)) 7) (name_run behind run s r e)
      ∙ ap (λ (t : State). eqb (kind_of t) 7) iri-closes
      ∙ ap (λ (n : ℕ). eqb n 7) kind-iri_end

label-slash : label_byte 0x5C ≡ false
unfolding label_byte is_name_char_lem is_name_start is_base is_alpha_lem is_digit_lem
label-slash = refl

label-bare : (x : ℕ) → label_byte x ≡ true → x ≡ 0x5C → ⊥
label-bare x h = none_of label_byte x 0x5C h label-slash

label-starts : (x : ℕ) → is_label_start_lem x ≡ true → step Colon x ≡ Label
unfolding step
label-starts x h = rw h refl

label-still : (x : ℕ) → label_byte x ≡ true → Still Label x
unfolding step in_label
label-still x h = record { low = label-low x h; bare = label-bare x h; same = rw (label-name x h) refl }

label-kind : kind_of Label ≡ 5
unfolding kind_of
label-kind = refl

module _ (b : List ℕ) (from to : ℕ) (some : from < to) (long : to ≤ length b) where
  pub plain_label : (run : ℕ) → is_label_start_lem (get_or b from 0) ≡ true → Run label_byte b from to run → run ≡ to → is_legal_text 1 (slice from to b) ≡ true
  plain_label run s r e =
      let x = get_or b from 0 in
      let first = r.each from (omega arith) (omega arith) in
      legal-blank (slice from to b)
      ∙ ap (λ (t : State). eqb (kind_of t) 5)
      (bare-byte b to long Colon Label from some (label-low x first) (label-bare x first) (label-starts x s)
      ∙ bare-still b to long Label (from + 1) run (omega arith) r.within (λ k l m. label-still (get_or b k 0) (r.each k (omega arith) m))
      ∙ bare-end b to long Label run e)
      ∙ ap (λ (n : ℕ). eqb n 5) label-kind
