-- What the parts of the code promise each other: a text laid, or compared, a character at a time.
use Rattle.std.specs.Prelude.{◌≡◌, Option, Some, None, Bool, true, false, cond, List, [], ◌∷◌, ◌++◌, ℕ, ◌+◌, ◌≤◌, ◌<◌, eqb}
use Rattle.std.proofs.Math.Seq.{slice}
use Rattle.utf8.specs.Characters.{is_character_lem, char_bytes}
use Rattle.utf8.specs.Texts.{seen, AllCharacters}
use Rattle.names.specs.Entering.{same_text_lem}
use Rattle.ntline.specs.declared.lexing.State.{State}
use Rattle.ntline.specs.declared.lexing.State.TheVariants.{Dead}
use Rattle.ntline.specs.declared.lines.Span.{Span}
use Rattle.ntline.specs.Escapes.{resolved}
use Rattle.ntline.specs.Grammar.{Term}
use Rattle.ntline.specs.Kinds.{sort_number}
use Rattle.ntline.specs.Lexing.{step}
use Rattle.nttext.specs.declared.texts.Written.{Written}
use Rattle.nttext.specs.declared.texts.Cursor.{Cursor}
use Rattle.nttext.specs.declared.texts.Front.{Front}
use Rattle.nttext.specs.declared.texts.Bounds.{Bounds}
use Rattle.nttext.specs.Texts.{canonical, text_of_term}
use Rattle.nttext.specs.Laying.{laid}
use Rattle.nttext.specs.Standing.{Stands, LaidIn}

-- a character of a text, with a backslash before it or not
abbrev pub slashed : Bool → ℕ → List ℕ
slashed slash value = cond slash (0x5C ∷ char_bytes value) (char_bytes value)

-- what a cursor has to lay: nothing where it stands in an escape or on white space
abbrev pub unit_of : Option Written → List ℕ
unit_of None = []
unit_of (Some w) = slashed w.slash w.value

-- if it has one, it is a character
abbrev pub IsGood : Option Written → Type 0
IsGood None = Unit {0}
IsGood (Some w) = is_character_lem w.value ≡ true

abbrev pub cursor_at : ℕ → ℕ → ℕ → Option Written → Cursor
cursor_at at left number unit = record { at = at; left = left; number = number; unit = unit }

-- a character in canonical form
pub record Canonical (c : ℕ) (w : Written) : Type 0 where
  pub bytes_are : slashed w.slash w.value ≡ canonical c
  pub good : is_character_lem c ≡ true → is_character_lem w.value ≡ true

-- every character that a source gives is one
abbrev pub Given : ℕ → ℕ → List ℕ → Type 0
Given left number cs = AllCharacters (resolved left number cs)

-- one character of a source more
pub record Advanced (b : List ℕ) (end : ℕ) (quoted : Bool) (k r : Cursor) : Type 0 where
  pub later : k.at < r.at
  pub within : r.at ≤ end
  pub lays : laid quoted k.left k.number (seen b k.at end) ≡ unit_of r.unit ++ laid quoted r.left r.number (seen b r.at end)
  pub good : Given k.left k.number (seen b k.at end) → IsGood r.unit
  pub goes : Given k.left k.number (seen b k.at end) → Given r.left r.number (seen b r.at end)
  pub over : (w : Written) → r.unit ≡ Some w → (r.left ≡ 0) × (r.number ≡ 0)

-- a source lies from one position to another
pub record Lies (b : List ℕ) (from to : ℕ) : Type 0 where
  pub rising : from ≤ to
  pub given : Given 0 0 (seen b from to)

abbrev pub span_text : List ℕ → ℕ → ℕ → Bool → List ℕ
span_text b from to quoted = laid quoted 0 0 (seen b from to)

-- whether a text stands in bytes from a position on, and where it ends
pub record MatchedIn (text out : List ℕ) (at end : ℕ) (same : Bool) (to : ℕ) : Type 0 where
  pub rising : same ≡ true → at ≤ to
  pub within : same ≡ true → to ≤ end
  pub there : same ≡ true → slice at to out ≡ text
  pub other : same ≡ false → (more : List ℕ) → same_text_lem (text ++ more) (slice at end out) ≡ false

-- where the text ends, if it stands there
abbrev pub MatchedTo : List ℕ → List ℕ → ℕ → ℕ → Option ℕ → Type 0
MatchedTo text out at end (Some to) = MatchedIn text out at end true to
MatchedTo text out at end None = MatchedIn text out at end false at

-- up to a position a source lays a text
pub record Lays (b : List ℕ) (from to : ℕ) (quoted : Bool) (text : List ℕ) (at : ℕ) : Type 0 where
  pub later : from ≤ at
  pub within : at ≤ to
  pub lays : span_text b from to quoted ≡ text ++ span_text b at to quoted
  pub goes : Given 0 0 (seen b from to) → Given 0 0 (seen b at to)

-- the next character of a text, or none at the end of its source
pub record UnitAt (b : List ℕ) (from to : ℕ) (quoted : Bool) (r : Cursor) : Type 0 where
  pub passes : from < r.at
  pub lays : Lays b from to quoted (unit_of r.unit) r.at
  pub good : Given 0 0 (seen b from to) → IsGood r.unit

-- what a text has up to a position of its source, laid
pub record FrontLaid (b : List ℕ) (from to : ℕ) (quoted : Bool) (out after : List ℕ) (at : ℕ) (fits : Bool) (mid last : ℕ) : Type 0 where
  pub text : List ℕ
  pub lays : Lays b from to quoted text mid
  pub lies : LaidIn text out after at fits last

abbrev pub FrontTo : List ℕ → ℕ → ℕ → Bool → List ℕ → List ℕ → ℕ → Option Front → Type 0
FrontTo b from to quoted out after at (Some f) = FrontLaid b from to quoted out after at true f.at f.to
FrontTo b from to quoted out after at None = (mid : ℕ) × FrontLaid b from to quoted out after at false mid at

-- so many plain bytes of a source stand in bytes from a position on
pub record SameRun (b : List ℕ) (from to : ℕ) (quoted : Bool) (out : List ℕ) (at end size : ℕ) : Type 0 where
  pub lays : Lays b from to quoted (slice from (from + size) b) (from + size)
  pub there : MatchedIn (slice from (from + size) b) out at end true (at + size)

-- where the text of a term lies
pub record PartsOf (b : List ℕ) (end : ℕ) (t : Span) (p : Bounds) : Type 0 where
  pub front : Lies b p.from p.to
  pub behind : Lies b p.to p.tail
  pub within : p.tail ≤ end
  pub text_is : (m : Term) → Stands b end t m → span_text b p.from p.to (eqb (sort_number t.sort) 2) ++ span_text b p.to p.tail false ≡ text_of_term m

-- the state behind characters that have no backslash; Dead where one has
unfoldable pub bare_run : State → List ℕ → State
bare_run s [] = s
bare_run s (c ∷ cs) = cond (eqb c 0x5C) Dead (bare_run (step s c) cs)
