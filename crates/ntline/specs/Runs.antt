-- Bytes that are passed over without a look at each as a character.
use Rattle.std.specs.Prelude.{◌≡◌, Bool, true, ◌&&◌, ◌||◌, List, ℕ, ◌+◌, ◌-◌, ◌≤◌, ◌<◌, eqb, ltb, get_or}
use Rattle.ntline.specs.declared.lexing.State.{State}
use Rattle.ntline.specs.declared.lexing.State.TheVariants.{Iri}
use Rattle.ntline.specs.Classes.{is_alpha_lem, is_iri_char_lem, is_name_char_lem}
use Rattle.ntline.specs.Lexing.{step, kind_of}

-- a byte that stands for itself in an IRI and in a string, and a blank where it may stand too
unfoldable pub plain_byte : Bool → ℕ → Bool
plain_byte blank x = ltb x 0x80 && (is_iri_char_lem x || (blank && eqb x 0x20))

-- a byte that a label goes on with
unfoldable pub label_byte : ℕ → Bool
label_byte x = ltb x 0x80 && is_name_char_lem x

-- every byte from one position up to another is so
pub record Run (P : ℕ → Bool) (b : List ℕ) (at end to : ℕ) : Type 0 where
  pub later : at ≤ to
  pub within : to ≤ end
  pub each : (k : ℕ) → at ≤ k → k < to → P (get_or b k 0) ≡ true

-- a byte that leaves a state as it is
pub record Still (s : State) (x : ℕ) : Type 0 where
  pub low : x < 0x80
  pub bare : x ≡ 0x5C → ⊥
  pub same : step s x ≡ s

-- from one position up to another nothing changes: the state stays, and no terminal ends
pub record RunTo (s : State) (b : List ℕ) (at end to : ℕ) : Type 0 where
  pub later : at ≤ to
  pub within : to ≤ end
  pub quiet : at < to → kind_of s ≡ 0
  pub still : (k : ℕ) → at ≤ k → k < to → Still s (get_or b k 0)

-- an IRI's scheme and its colon, from one position up to another
pub record SchemeTo (b : List ℕ) (at end to : ℕ) : Type 0 where
  pub later : at + 1 < to
  pub within : to ≤ end
  pub letter : is_alpha_lem (get_or b at 0) ≡ true
  pub inside : RunTo (Iri 1 0 0) b (at + 1) end (to - 1)
  pub colon : get_or b (to - 1) 0 ≡ 0x3A
