-- What a walk of a loop wants: the test of a `while`, an `if` with no `else`, and the order by which a loop that goes on towards n ends.
--     whiles, ifs           as steps with a premise for each outcome
--     Nearer, nearer-wf     the order
-- Assumes `Logic`.
use Prim.Native.Nat.{ℕ, ◌-◌, ◌<◌}
use mathlib.Core.Bool.{Bool, not}
use mathlib.Core.List.{List}
use mathlib.Core.WellFounded.InvImage
use mathlib.Core.WellFounded.{WellFounded}
use seplogic.Ra.Ura.{Ura}
use lib.Dec.{T}
use lib.WfN.{lt-wf_rel}
use mir.Syntax.{Body, Opd as Operand, skip, seq, cond, exit}
use mir.Val.{vbool}
use prog.Wp.{Env, Calls, Loops, Wp, after_seq, exits}
use types.Logic.{Logic}
use types.Kit.{Item, Post, post, any_q, runs, prop, Seq, ◌$◌}
use types.Run.{Opd, first, branches, skips, jumps}

abbrev pub Nearer : ℕ → ℕ → ℕ → Type 0
Nearer n j i = n - j < n - i

pub nearer_wf : {X : Type 0} (n : ℕ) (f : X → ℕ) → WellFounded (λ (y x : X). Nearer n (f y) (f x))
nearer_wf n f = InvImage.wf (λ x. n - f x) lt-wf_rel.wf

module _ {M : Type 1} {𝓤 : Ura M} {𝓛 : Logic 𝓤} {K : Type 0} {Γ : List (Item 𝓤)} {E : Env 𝓤 𝓛.H} {C : Calls 𝓤 𝓛.H} {Λ : Loops 𝓤 𝓛.H} {q : Post 𝓤 𝓛.H} where
  open 𝓛 use {H}

  pub whiles : K → {c : Operand} {n : ℕ} {b : Body} {y : Bool} → Opd K 𝓛 Γ E c (vbool y)
      → (T y → Seq K 𝓛 Γ (runs C Λ E b q)) → (T (not y) → Seq K 𝓛 Γ (prop (post 𝓤 H q (exits n)))) → Seq K 𝓛 Γ (runs C Λ E (seq (cond c skip (exit n)) b) q)
  whiles t o held failed = first t $ branches t o (λ h. skips t $ record { prf = (held h).prf }) (λ h. jumps t $ record { prf = (failed h).prf })

  pub ifs : K → {c : Operand} {a b : Body} {y : Bool} → Opd K 𝓛 Γ E c (vbool y)
      → (T y → Seq K 𝓛 Γ (runs C Λ E a (any_q (after_seq 𝓤 H (Wp 𝓤 H C Λ E b (post 𝓤 H q)) (post 𝓤 H q))))) → (T (not y) → Seq K 𝓛 Γ (runs C Λ E b q)) → Seq K 𝓛 Γ (runs C Λ E (seq (cond c a skip) b) q)
  ifs t o held failed = first t $ branches t o held (λ h. skips t $ record { prf = (failed h).prf })
