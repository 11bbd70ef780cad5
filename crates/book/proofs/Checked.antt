-- An order of checks, one after another as the code meets them: the first that does not pass is said, and where all pass the order is done. Assumes nothing.
use mathlib.Core.Path.{◌≡◌, refl, sym, ap, ◌∙◌}
use mathlib.Core.Bool.{Bool, true, false}
use mathlib.Core.List.{List, ◌∷◌, ◌++◌}
use Prim.Native.Nat.{ℕ, ◌<◌}
use Rattle.term.specs.Refusal.{Check, refuse, verdict, first}
use Rattle.term.specs.declared.refusal.Verdict.{Verdict}
use Rattle.term.proofs.Firsts.{Numbered, AllAt, first_holds, first_passes, first_stops, first-clear, first-place}
use Rattle.book.specs.Inner.{RefusedBy}

module _ (all : List Check) where
  -- the checks in front of these pass
  pub record Past (cs : List Check) : Type 0 where
    pub is : first all ≡ first cs

  pub refused_by : (cs : List Check) → Past cs → (v : Verdict) → RefusedBy cs v → RefusedBy all v
  refused_by cs h v r = record { verdict_is = r.verdict_is ∙ sym h.is; some = r.some }

  -- one check
  module _ (w : Bool) (n p : ℕ) (cs : List Check) (h : Past (refuse w n p ∷ cs)) where
    pub passed : w ≡ false → Past cs
    passed e = record { is = h.is ∙ first_passes w n p cs e }

    pub stopped : w ≡ true → 0 < n → (v : Verdict) → v ≡ verdict n p → RefusedBy all v
    stopped e q v ev = record { verdict_is = ev ∙ sym (h.is ∙ first_holds w n p cs e); some = rw ev q }

  -- the checks of another crate, which gave their number
  module _ (cs ds : List Check) (n : ℕ) (e : n ≡ (first cs).number) (h : Past (cs ++ ds)) where
    pub passed_all : Numbered cs → n ≡ 0 → Past ds
    passed_all num z = record { is = h.is ∙ first-clear cs ds num (sym e ∙ z) }

    pub stopped_at : (p : ℕ) → AllAt p cs → 0 < n → (v : Verdict) → v ≡ verdict n p → RefusedBy all v
    stopped_at p at q v ev =
        let some : 0 < (first cs).number = rw (← e) q in
        record {
          verdict_is = ev ∙ ap (λ (x : ℕ). verdict x p) e ∙ sym (h.is ∙ first_stops cs ds some ∙ first-place p cs at some);
          some = rw ev q;
        }

  pub nothing_past : Past all
  nothing_past = record { is = refl }
