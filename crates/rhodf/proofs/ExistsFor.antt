-- The closure exists for every set of rules that keep terms legal and of which it is decided whether a table is closed: closure induction comes to one,
-- with nothing asked of its values. Assumes nothing.
use mathlib.Core.List.{List}
use Prim.Native.Nat.{ℕ}
use Rattle.table.specs.Rows.{Row}
use Rattle.table.specs.Sound.{SoundRows}
use Rattle.rhodf.specs.Rules.{Rules}
use Rattle.rhodf.specs.Closure.{ClosureOf}
use Rattle.rhodf.proofs.Drawing.{KeepLegal}
use Rattle.rhodf.proofs.Deciding.{Decided}
use Rattle.rhodf.proofs.ClosureInduction.{reached}

module _ (R : Rules) (keeps : KeepLegal R) (decided : Decided R) (kind : ℕ) where
  pub closure_exists_for : (rows : List Row) → SoundRows kind rows → (closed : List Row) × ClosureOf kind R rows closed
  closure_exists_for rows sound =
      let made = reached R keeps decided kind (λ t a. Unit {0}) (record { joins = λ t a b p q. tt; draws = λ G v q ps t r d h. tt }) rows sound (λ t. tt) in
      (made.0, made.1)
