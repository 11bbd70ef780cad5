-- What is to be shown of reading and writing (T1 to T5), as statements.
use Rattle.std.specs.Prelude.{◌≡◌, Bool, true, false, not, cond, ◌&&◌, ◌||◌, List, [], ◌∷◌, ◌++◌, map, ◌⊎◌, ◌↔◌, ℕ, ◌+◌, ◌≤◌, ◌<◌, length, eqb, leb, ltb}
use Rattle.ground.specs.Lists.{All, each, only_if}
use Rattle.term.specs.Refusal.{Check, refuse, verdict, done, first}
use Rattle.term.specs.Term.{sort_of}
use Rattle.annotation.specs.Kinds.{is_kind, is_legal}
use Rattle.table.specs.Rows.{Row, Lanes, rows_of, filled}
use Rattle.table.specs.Sound.{SoundRows}
use Rattle.table.specs.Checks.{is_unfit}
use Rattle.utf8.specs.Texts.{chars_of}
use Rattle.names.specs.Names.{Entry, NameLanes, entries_of, text_of, is_unfit_list}
use Rattle.names.specs.Entering.{Made, same_text_lem, five_number}
use Rattle.ntline.specs.Grammar.{Said, Term, LineSays}
use Rattle.ntline.specs.Lines.{Heard, line_of, said_by}
use Rattle.ntwrite.specs.Written.{marked}
use Rattle.nttext.specs.Texts.{text_of_term, sort_of_term, is_legal_text}
use Rattle.ntenter.specs.Line.{Read, Room, room_of}
use Rattle.ntread.specs.Reading.{LineAt, lines_from, lent_checks, read_file, filled_names}
use Rattle.ntriples.specs.Writing.{write_checks, file_bytes}

-- t(n): "(sort, text) of number n by a list"
pub record Meant : Type 0 where
  pub sort : ℕ
  pub text : List ℕ

abbrev pub meant_of : List Entry → ℕ → Meant
meant_of es n = record { sort = sort_of n; text = text_of es n }

abbrev pub meant_term : Term → Meant
meant_term t = record { sort = sort_of_term t; text = text_of_term t }

-- "(t(s), t(p), t(o))"
pub record Triple : Type 0 where
  pub s : Meant
  pub p : Meant
  pub o : Meant

abbrev pub triple_of : List Entry → Row → Triple
triple_of es r = record { s = meant_of es r.s; p = meant_of es r.p; o = meant_of es r.o }

abbrev pub triple_said : Term → Term → Term → Triple
triple_said s p o = record { s = meant_term s; p = meant_term p; o = meant_term o }

-- "M(T, L) the set of (t(s), t(p), t(o)) over the rows of T": which triples are in it
pub data InRows (es : List Entry) (m : Triple) : List Row → Type 0 where
  here : {r : Row} {rs : List Row} → triple_of es r ≡ m → InRows es m (r ∷ rs)
  later : {r : Row} {rs : List Row} → InRows es m rs → InRows es m (r ∷ rs)

-- "the set of the triples of its lines"
pub data InLines (m : Triple) : List LineAt → Type 0 where
  here : {l : LineAt} {ls : List LineAt} {s p o : Term} → LineSays l.bytes (Said.says s p o) → triple_said s p o ≡ m → InLines m (l ∷ ls)
  later : {l : LineAt} {ls : List LineAt} → InLines m ls → InLines m (l ∷ ls)

abbrev pub InFile : Triple → List ℕ → Type 0
InFile m file = InLines m (lines_from 0 file)

-- T1: "read done, then M(rows, list) is the set of the triples of its lines; each row has the annotation a; distinct entries have distinct
-- (sort, text); all texts legal; numbers consecutive per sort in the order met; the table sound"
pub record ReadingMeans (kind a : ℕ) (file : List ℕ) (es : List Entry) (rows : List Row) : Type 0 where
  pub means : (m : Triple) → InRows es m rows ↔ InFile m file
  pub annotated : All (λ r. r.a ≡ a) rows
  pub made : Made es
  pub legal : All (λ e. is_legal_text (sort_of e.number) e.text ≡ true) es
  pub sound : SoundRows kind rows

abbrev pub T1 : Type 0
T1 =
    (kind a : ℕ) (file : List ℕ) (l : Lanes) (n : NameLanes) → (read_file kind a file l n).verdict_of ≡ done →
    ReadingMeans kind a file (read_file kind a file l n).entries (read_file kind a file l n).rows

-- ---- how much there is

-- whether one of them is the same
unfoldable pub is_among : {A : Type 0} → (A → A → Bool) → A → List A → Bool
is_among same x [] = false
is_among same x (y ∷ ys) = same y x || is_among same x ys

-- those met before, and behind them the different ones of the others, as first met
unfoldable pub met_after : {A : Type 0} → (A → A → Bool) → List A → List A → List A
met_after same met [] = met
met_after same met (x ∷ xs) = met_after same (cond (is_among same x met) met (met ++ (x ∷ []))) xs

abbrev pub same_meant : Meant → Meant → Bool
same_meant m n = eqb m.sort n.sort && same_text_lem m.text n.text

abbrev pub same_triple : Triple → Triple → Bool
same_triple t u = same_meant t.s u.s && (same_meant t.p u.p && same_meant t.o u.o)

abbrev pub is_five : Meant → Bool
is_five m = eqb m.sort 0 && ltb (five_number m.text) 5

-- "the five aside"
abbrev pub besides : Meant → List Meant
besides m = only_if (not (is_five m)) m

abbrev pub texts_in : Triple → List Meant
texts_in t = besides t.s ++ (besides t.p ++ besides t.o)

-- "different (sort, text) .. other than the five"
abbrev pub different_texts : List Triple → List Meant
different_texts ts = met_after same_meant [] (each texts_in ts)

-- the triples as a set: |M|
abbrev pub different_triples : List Triple → List Triple
different_triples ts = met_after same_triple [] ts

-- "the sum of their lengths"
unfoldable pub bytes_in : List Meant → ℕ
bytes_in [] = 0
bytes_in (m ∷ ms) = length m.text + bytes_in ms

-- the texts are not "more than the entries or longer than the text lane"
abbrev pub texts_fit : Room → List Triple → Bool
texts_fit room ts = leb (length (different_texts ts)) room.entries && leb (bytes_in (different_texts ts)) room.bytes

-- the triples are not "more than the rows"
abbrev pub rows_fit_lem : Room → List Triple → Bool
rows_fit_lem room ts = leb (length (different_triples ts)) room.rows

-- ---- T2

abbrev pub heard_in : LineAt → Heard
heard_in l = said_by (line_of (chars_of l.bytes))

abbrev pub is_wrong : Heard → Bool
is_wrong Heard.wrong = true
is_wrong (Heard.heard said) = false

-- the triple of a line, if it says one
abbrev pub triples_said : Heard → List Triple
triples_said Heard.wrong = []
triples_said (Heard.heard Said.nothing) = []
triples_said (Heard.heard (Said.says s p o)) = triple_said s p o ∷ []

abbrev pub triples_in : List LineAt → List Triple
triples_in ls = each (λ l. triples_said (heard_in l)) ls

-- "in each line 26, 27, 12"; of the triples of the lines up to this one, this one's too
abbrev pub line_checks : Room → ℕ → Heard → List Triple → List Check
line_checks room place line ts =
    refuse (is_wrong line) 26 place
    ∷ refuse (not (texts_fit room ts)) 27 place
    ∷ refuse (not (rows_fit_lem room ts)) 12 place
    ∷ []

unfoldable pub lines_checks : Room → List Triple → List LineAt → List Check
lines_checks room before [] = []
lines_checks room before (l ∷ ls) =
    let up_to = before ++ triples_said (heard_in l) in
    line_checks room l.place (heard_in l) up_to ++ lines_checks room up_to ls

-- T2: "number and place are the first by R1; 27 exactly when the texts of the lines up to this one (the five aside) are more than the entries or
-- longer than the text lane; 12 exactly when the triples up to this one are more than the rows"
abbrev pub T2 : Type 0
T2 =
    (kind a : ℕ) (file : List ℕ) (l : Lanes) (n : NameLanes) →
    (read_file kind a file l n).verdict_of ≡ first (lent_checks kind a file l n ++ lines_checks (room_of l n) [] (lines_from 0 file))

-- a line in canonical form (W5), without its LF: "subject, blank, predicate, blank, object, blank, '.'"
abbrev pub canonical_term : Term → List ℕ
canonical_term t = marked (sort_of_term t) (text_of_term t)

abbrev pub canonical_line : Term → Term → Term → List ℕ
canonical_line s p o = canonical_term s ++ (32 ∷ []) ++ canonical_term p ++ (32 ∷ []) ++ canonical_term o ++ (32 ∷ []) ++ (46 ∷ [])

-- T3: "done, then every line of the output is canonical, and the lines mean the rows, in order"
pub data LinesMean (es : List Entry) : List LineAt → List Row → Type 0 where
  none : LinesMean es [] []
  more : {l : LineAt} {ls : List LineAt} {r : Row} {rs : List Row} (s p o : Term) →
      l.bytes ≡ canonical_line s p o → LineSays l.bytes (Said.says s p o) → triple_said s p o ≡ triple_of es r → LinesMean es ls rs →
      LinesMean es (l ∷ ls) (r ∷ rs)

-- "a line ends in one LF, the last too": nothing else stands in the output
abbrev pub ended : List LineAt → List ℕ
ended [] = []
ended (l ∷ ls) = l.bytes ++ (10 ∷ ended ls)

pub record Canonical (es : List Entry) (file : List ℕ) (rows : List Row) : Type 0 where
  pub lines_mean : LinesMean es (lines_from 0 file) rows
  pub all_lines : file ≡ ended (lines_from 0 file)

abbrev pub T3 : Type 0
T3 =
    (kind : ℕ) (l : Lanes) (count : ℕ) (n : NameLanes) (names : ℕ) (out : List ℕ) → first (write_checks kind l count n names out) ≡ done →
    Canonical (entries_of n names) (file_bytes (entries_of n names) (rows_of l count)) (rows_of l count)

-- a number of one of the rows' terms
pub data TermIn (n : ℕ) : List Row → Type 0 where
  subject : {r : Row} {rs : List Row} → r.s ≡ n → TermIn n (r ∷ rs)
  predicate : {r : Row} {rs : List Row} → r.p ≡ n → TermIn n (r ∷ rs)
  object : {r : Row} {rs : List Row} → r.o ≡ n → TermIn n (r ∷ rs)
  later : {r : Row} {rs : List Row} → TermIn n rs → TermIn n (r ∷ rs)

-- "L gives different terms of T different texts"
abbrev pub TellsApart : List Entry → List Row → Type 0
TellsApart es rows = (x y : ℕ) → TermIn x rows → TermIn y rows → meant_of es x ≡ meant_of es y → x ≡ y

-- what reading back gives, with room for so many rows, entries and bytes
pub record ReadBack (es : List Entry) (rows : List Row) (room : Room) (r : Read) : Type 0 where
  pub is_done : texts_fit room (map (triple_of es) rows) ≡ true → rows_fit_lem room (map (triple_of es) rows) ≡ true → r.verdict_of ≡ done
  -- "Less room is 27 or 12"
  pub less_room : (texts_fit room (map (triple_of es) rows) && rows_fit_lem room (map (triple_of es) rows)) ≡ false → (r.verdict_of.number ≡ 27) ⊎ (r.verdict_of.number ≡ 12)
  -- "M(T', L') = M(T, L)"
  pub same_triples : r.verdict_of ≡ done → (t : Triple) → InRows es t rows ↔ InRows r.entries t r.rows
  -- "count' = |M(T, L)|"
  pub count_is : r.verdict_of ≡ done → length r.rows ≡ length (different_triples (map (triple_of es) rows))
  -- "count' = count"
  pub same_count : r.verdict_of ≡ done → TellsApart es rows → length r.rows ≡ length rows

-- T4: "If writing (K, T, count, L) is done with bytes w, w is at most 65,535 long, a is legal in kind K', the table lanes have at least |M(T, L)| rows, the
-- list at least as many entries as there are different (sort, text) in M(T, L) other than the five, and at least the sum of their lengths in
-- text, then reading (K', a, w) is done, M(T', L') = M(T, L), and count' = |M(T, L)|. Less room is 27 or 12."
abbrev pub T4 : Type 0
T4 =
    (kind : ℕ) (l : Lanes) (count : ℕ) (n : NameLanes) (names : ℕ) (out : List ℕ) → first (write_checks kind l count n names out) ≡ done →
    (kind' a : ℕ) (m : Lanes) (k : NameLanes) →
    length (file_bytes (entries_of n names) (rows_of l count)) ≤ 65535 →
    is_kind kind' ≡ true → is_legal kind' a ≡ true → is_unfit m ≡ false → is_unfit_list k ≡ false →
    ReadBack (entries_of n names) (rows_of l count) (room_of m k) (read_file kind' a (file_bytes (entries_of n names) (rows_of l count)) m k)

-- T5: "after a done reading, writing with its list is never 39, and is 12 only for a short output"
abbrev pub T5 : Type 0
T5 =
    (kind a : ℕ) (file : List ℕ) (l : Lanes) (n : NameLanes) (out : List ℕ) → (read_file kind a file l n).verdict_of ≡ done →
    let r = read_file kind a file l n in
    let v = first (write_checks kind (filled r.rows l) (length r.rows) (filled_names r.entries n) (length r.entries) out) in
    (v ≡ done) ⊎ ((v ≡ verdict 12 0) × (length out < length (file_bytes r.entries r.rows)))
