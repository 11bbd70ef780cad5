-- A table that rises: not at all, one rising after another, and a loop of them, whose state is its promise at another place. Assumes nothing.
use mathlib.Core.Path.{◌≡◌, refl, sym, ◌∙◌, subst₂}
use mathlib.Core.Bool.{Bool, true, false, ◌||◌, true≢false, false≢true}
use mathlib.Core.Logic.{◌⊎◌, inl, inr, ⊎_elim}
use Prim.Native.Nat.{ℕ, ◌+◌, ◌≤◌, ◌<◌}
use native.Mathlib.Omega.{arith}
use borrow.Author.Count.{below_more}
use Rattle.annotation.specs.Kinds.{algebra}
use Rattle.annotation.proofs.KindLaws.{laws}
use Rattle.table.specs.Rows.{Lanes, rows_of, total}
use Rattle.table.specs.Sound.{Sound}
use Rattle.table.proofs.Laid.{as_long-self, as_long-on}
use Rattle.rhodf.specs.Graph.{graph_of}
use Rattle.rhodf.specs.Rules.{Rules}
use Rattle.rhodf.proofs.Graphs.{below_self, below-trans}
use Rattle.walks.specs.Rising.{Risen, Drew, Either}

pub which : (b : Bool) → (b ≡ true) ⊎ (b ≡ false)
which true = inl refl
which false = inr refl

pub either_or : (a b : Bool) → Either a b (a || b)
either_or true b = record { neither = λ e. absurd (true≢false e); one = λ e. inl refl }
either_or false b = record { neither = λ e. (refl, e); one = λ e. inr e }

-- what a loop has passed, from `at` up to i
pub record Passed (P : Lanes → ℕ → ℕ → Type 0) (at i : ℕ) (l : Lanes) (n : ℕ) : Type 0 where
  pub reached : at ≤ i
  pub passed : (k : ℕ) → k < i → P l n k

module _ {R : Rules} {kind : ℕ} where
  -- nothing is done
  pub risen-none : {l : Lanes} {n : ℕ} → Sound kind l n → Risen R kind l n l false false n
  risen-none {l} {n} sound = record {
    sound = sound;
    as_long = as_long-self l;
    more = omega arith;
    up = below_self (algebra kind) (laws kind) (graph_of (rows_of l n));
    entailed = λ H h. h.2;
    still = λ z. (refl, refl);
    grows = λ z. absurd (false≢true z);
    over = λ z. absurd (false≢true z);
  }

  pub drew-none : {S : ℕ → Type 0} {Q : Type 0} {l : Lanes} {n : ℕ} → Sound kind l n → Q → Drew R kind S Q l n l false false n
  drew-none sound q = record { risen = risen-none sound; kept = λ t h. refl; inside = λ f z. q }

  -- one rising after another
  risen-total : {l : Lanes} {n : ℕ} {m : Lanes} {full changed : Bool} {n' : ℕ} → Risen R kind l n m full changed n' → total (rows_of l n) ≤ total (rows_of m n')
  risen-total {l} {n} {m} {full} {changed} {n'} s = ⊎_elim
      (λ t. omega (arith, s.grows t))
      (λ f. let e = s.still f in rw (e.0, e.1) (omega arith)) (which changed)

  module _ {l : Lanes} {n : ℕ} {m : Lanes} {c : Bool} {n₁ : ℕ} {m₂ : Lanes} {f₂ c₂ : Bool} {n₂ : ℕ} {c₃ : Bool} where
    pub risen-then : Risen R kind l n m false c n₁ → Risen R kind m n₁ m₂ f₂ c₂ n₂ → Either c c₂ c₃ → Risen R kind l n m₂ f₂ c₃ n₂
    risen-then s t e = record {
      sound = t.sound;
      as_long = as_long-on s.as_long t.as_long;
      more = omega (arith, s.more, t.more);
      up = below-trans (algebra kind) (laws kind) s.up t.up;
      entailed = λ H h. t.entailed H (h.0, h.1, s.entailed H h);
      still = λ z. let q = e.neither z in ((t.still q.1).0 ∙ (s.still q.0).0, (t.still q.1).1 ∙ (s.still q.0).1);
      grows = λ z. ⊎_elim
          (λ w. omega (arith, s.grows w, risen-total t))
          (λ w. omega (arith, t.grows w, risen-total s)) (e.one z);
      over = λ z. let w = t.over z in record {
        others = w.others;
        sound = w.sound;
        long = rw s.as_long.same_subj at w.long;
        entailed = λ H h. w.entailed H (h.0, h.1, s.entailed H h);
      };
    }

    -- a turn of a loop: P is what a turn shows of its index where nothing changes
    pub turn : {S : ℕ → Type 0} {P : Lanes → ℕ → ℕ → Type 0} {at i : ℕ} → Drew R kind S (Passed P at i l n) l n m false c n₁
        → Drew R kind S (P m n₁ i) m n₁ m₂ f₂ c₂ n₂ → Either c c₂ c₃ → Drew R kind S (Passed P at (i + 1) l n) l n m₂ f₂ c₃ n₂
    turn {S} {P} {at} {i} s t e = record {
      risen = risen-then s.risen t.risen e;
      kept = λ u h. t.kept u h ∙ s.kept u h;
      inside = λ f z.
          let q = e.neither z in
          let w = s.risen.still q.0 in
          let a = s.inside refl q.0 in
          record {
            reached = omega (arith, a.reached);
            passed = below_more (λ (k : ℕ). P l n k) i a.passed (subst₂ (λ (x : Lanes) (k : ℕ). P x k i) w.0 w.1 (t.inside f q.1));
          };
    }

  module _ {S : ℕ → Type 0} {Q : Type 0} {l : Lanes} {n : ℕ} {m : Lanes} {f c : Bool} {n' : ℕ} (s : Drew R kind S Q l n m f c n') where
    -- with no room left nothing is claimed of the plans
    pub drew-full : {Q' : Type 0} → f ≡ true → Drew R kind S Q' l n m f c n'
    drew-full e = record { risen = s.risen; kept = s.kept; inside = λ z. absurd (true≢false (sym e ∙ z)) }

    -- where nothing changed, the table at the end is the one at the beginning
    pub drew-so : {Q' : Type 0} → (m ≡ l → n' ≡ n → Q → Q') → Drew R kind S Q' l n m f c n'
    drew-so h = record { risen = s.risen; kept = s.kept; inside = λ e z. let w = s.risen.still z in h w.0 w.1 (s.inside e z) }

    -- the subjects that rose are among others, if any did
    pub drew-among : {S' : ℕ → Type 0} → (c ≡ true → (x : ℕ) → S x → S' x) → Drew R kind S' Q l n m f c n'
    drew-among {S'} h = record {
      risen = s.risen;
      kept = λ t no. ⊎_elim
          (λ e. s.kept t (λ i. no (h e t.s i)))
          (λ e. let w = s.risen.still e in rw (w.0, w.1) refl) (which c);
      inside = s.inside;
    }
