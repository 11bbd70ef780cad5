-- L3 to L5, W4: the names list in its lanes, and the text of a number.
use Rattle.std.specs.Prelude.{Bool, cond, not, ◌&&◌, ◌||◌, List, [], ◌∷◌, ℕ, zero, suc, eqb, leb, ltb, length, get_or}
use Rattle.std.proofs.Math.Seq.{slice}
use Rattle.ground.specs.Lists.{tab}
use Rattle.names.specs.Five.{five_text}

pub record Entry : Type 0 where
  pub number : ℕ
  pub text : List ℕ

abbrev pub entry : ℕ → List ℕ → Entry
entry number text = record { number = number; text = text }

-- "two lanes terms and ends (16-bit) .., a lane text"
pub record NameLanes : Type 0 where
  pub terms : List ℕ
  pub ends : List ℕ
  pub text : List ℕ

abbrev pub lanes_of : List ℕ → List ℕ → List ℕ → NameLanes
lanes_of terms ends text = record { terms = terms; ends = ends; text = text }

-- "the bytes of text from ends[i-1] (0 for i = 0)"
unfoldable pub start_of : List ℕ → ℕ → ℕ
start_of ends zero = 0
start_of ends (suc i) = get_or ends i 0

-- "its ends fit (ends[i-1] <= ends[i] <= text's length)"
abbrev pub ends_fit : List ℕ → List ℕ → ℕ → Bool
ends_fit ends text i = leb (start_of ends i) (get_or ends i 0) && leb (get_or ends i 0) (length text)

-- "Entry i is number terms[i] with the bytes of text from ends[i-1] up to, not including, ends[i]"; no bytes where its ends do not fit
unfoldable pub text_at_lem : List ℕ → List ℕ → ℕ → List ℕ
text_at_lem ends text i = cond (ends_fit ends text i) (slice (start_of ends i) (get_or ends i 0) text) []

abbrev pub entry_at : NameLanes → ℕ → Entry
entry_at l i = entry (get_or l.terms i 0) (text_at_lem l.ends l.text i)

abbrev pub entries_of : NameLanes → ℕ → List Entry
entries_of l names = tab names (entry_at l)

-- "the text of the first entry below names with that number"; no bytes where there is none: no legal text is empty
unfoldable pub text_in : List Entry → ℕ → List ℕ
text_in [] n = []
text_in (e ∷ es) n = cond (eqb e.number n) e.text (text_in es n)

-- "0 to 4: the five, whatever the list says of them"
abbrev pub text_of : List Entry → ℕ → List ℕ
text_of es n = cond (ltb n 5) (five_text n) (text_in es n)

-- "11 covers: .. terms and ends unequal or over 512; text over 32,768"
abbrev pub is_unfit_list : NameLanes → Bool
is_unfit_list l = not (eqb (length l.terms) (length l.ends)) || (ltb 512 (length l.terms) || ltb 32768 (length l.text))
