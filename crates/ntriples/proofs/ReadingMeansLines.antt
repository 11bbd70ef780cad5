-- Lines read one after another: what is held goes on to be what they say, or the first refusal by 26, 27, 12 is given. Assumes nothing.
use mathlib.Core.Path.{◌≡◌, refl, sym, ap, subst, ◌∙◌}
use mathlib.Core.Bool.{Bool, true, false, not, false≢true}
use mathlib.Core.List.{List, [], ◌∷◌, ◌++◌, append-nil, append_assoc}
use Prim.Native.Nat.{ℕ, ◌≤◌, ◌<◌}
use native.Mathlib.Omega.{arith}
use lib.Dec.{leb, ltb}
use lib.ListN.{length, length-append}
use borrow.Author.Tests.{leb-true, le-leb, lt-leb, ltb-true, ltb-false, eq-eqb}
use Rattle.ground.specs.Lists.{each}
use Rattle.ground.proofs.Each.{each_append, each-one}
use Rattle.term.specs.Term.{sort_of}
use Rattle.term.proofs.Sorts.{sort-legal}
use Rattle.term.specs.Refusal.{Check, verdict, done, first}
use Rattle.term.specs.declared.refusal.Verdict.{Verdict}
use Rattle.term.proofs.Firsts.{first_holds, first_passes}
use Rattle.annotation.specs.Kinds.{algebra, is_legal}
use Rattle.table.specs.Rows.{Row, row, add_row}
use Rattle.table.specs.Sound.{LegalRow}
use Rattle.utf8.specs.Texts.{chars_of}
use Rattle.names.specs.Names.{Entry}
use Rattle.names.specs.Entering.{Lookup, known}
use Rattle.names.proofs.Same.{both_true}
use Rattle.names.proofs.Meaning.{known-means}
use Rattle.ntline.specs.Grammar as grammar
use Rattle.ntline.specs.Lines.{Heard, line_of, said_by}
use Rattle.ntline.proofs.Encoded.{heard-line}
use Rattle.nttext.specs.Texts.{text_of_term, sort_of_term, Has}
use Rattle.nttext.proofs.LegalTexts.{sort-few}
use Rattle.ntenter.specs.Line.{Read, refused, Room, enter_term, add_triple, when_room, read_line}
use Rattle.ntread.specs.Reading.{LineAt, read_lines}
use Rattle.ntriples.specs.Shown.{Meant, meant_term, Triple, triple_said, met_after, same_meant, besides, texts_in, bytes_in, different_texts, different_triples, texts_fit, rows_fit_lem, heard_in, is_wrong, triples_said, triples_in, line_checks, lines_checks}
use Rattle.ntriples.proofs.ReadingMeansMet.{met-append, met-grown}
use Rattle.ntriples.proofs.ReadingMeansTexts.{Kept, Keeps, fits, kept-fits, bytes-append, met_with, Fate, goes, full, enter_fate}
use Rattle.ntriples.proofs.ReadingMeansHeld.{Stands, Holds, held-count, held_on}

-- ---- what a line can say

pub record Sayable (s p o : grammar.Term) : Type 0 where
  pub has-s : Has s
  pub has_p : Has p
  pub has-o : Has o
  pub subject : sort_of_term s ≤ 1
  pub predicate : sort_of_term p ≡ 0

subject-has : {source : List ℕ} {t : grammar.Term} → grammar.Subject source t → Has t × (sort_of_term t ≤ 1)
unfolding sort_of_term
subject-has {source = source} (grammar.Subject.iri d) = ((source, grammar.Object.iri d), omega arith)
subject-has {source = source} (grammar.Subject.label d) = ((source, grammar.Object.label d), omega arith)

predicate-has : {source : List ℕ} {t : grammar.Term} → grammar.Predicate source t → Has t × (sort_of_term t ≡ 0)
unfolding sort_of_term
predicate-has {source = source} (grammar.Predicate.iri d) = ((source, grammar.Object.iri d), refl)

pub says-sayable : {line : List ℕ} {s p o : grammar.Term} → grammar.Says line (grammar.Said.says s p o) → Sayable s p o
says-sayable (grammar.Says.triple_line (grammar.Triple.triple {object = object} w ds x dp y d b a k whole)) =
    let f = subject-has ds in
    let g = predicate-has dp in
    record { has-s = f.0; has_p = g.0; has-o = (object, d); subject = f.1; predicate = g.1 }

-- ---- room only gets less

grown_fits : (room : Room) (ts xs : List Meant) → fits room ts ≡ false → fits room (met_after same_meant ts xs) ≡ false
grown_fits room ts xs h = which (fits room (met_after same_meant ts xs)) refl
  where
    which : (b : Bool) → fits room (met_after same_meant ts xs) ≡ b → fits room (met_after same_meant ts xs) ≡ false
    which false e = e
    which true e =
        let g = met-grown same_meant ts xs in
        let p = both_true (leb (length (met_after same_meant ts xs)) room.entries) _ e in
        let one = leb-true (length (met_after same_meant ts xs)) room.entries p.0 in
        let two = leb-true (bytes_in (met_after same_meant ts xs)) room.bytes p.1 in
        let long = ap length g.is ∙ length-append ts g.new in
        let more = ap bytes_in g.is ∙ bytes-append ts g.new in
        absurd (false≢true (sym h ∙ rw (le-leb (length ts) room.entries (omega (arith, one, long)), le-leb (bytes_in ts) room.bytes (omega (arith, two, more))) refl))

-- ---- one line

module _ (kind a : ℕ) (room : Room) (small : room.entries ≤ 512) (legal : is_legal kind a ≡ true) where
  pub data LineFate (place : ℕ) (line : Heard) (up_to : List Triple) (es : List Entry) (rows : List Row) : Type 0 where
    on : (es₁ : List Entry) (rows₁ : List Row) → Holds kind a room up_to es₁ rows₁ →
        ((rest : List Check) → first (line_checks room place line up_to ++ rest) ≡ first rest) →
        ((next : List Entry → List Row → Read) → read_line kind a room place line es rows next ≡ next es₁ rows₁) → LineFate place line up_to es rows
    stop : (number : ℕ) → 0 < number → ((rest : List Check) → first (line_checks room place line up_to ++ rest) ≡ verdict number place) →
        ((next : List Entry → List Row → Read) → read_line kind a room place line es rows next ≡ refused number place) → LineFate place line up_to es rows

  passed : (place : ℕ) (line : Heard) (up_to : List Triple) → is_wrong line ≡ false → texts_fit room up_to ≡ true → rows_fit_lem room up_to ≡ true →
      (rest : List Check) → first (line_checks room place line up_to ++ rest) ≡ first rest
  passed place line up_to x y z rest =
      first_passes (is_wrong line) 26 place _ x
      ∙ first_passes (not (texts_fit room up_to)) 27 place _ (ap not y)
      ∙ first_passes (not (rows_fit_lem room up_to)) 12 place rest (ap not z)

  at_texts : (place : ℕ) (line : Heard) (up_to : List Triple) → is_wrong line ≡ false → texts_fit room up_to ≡ false →
      (rest : List Check) → first (line_checks room place line up_to ++ rest) ≡ verdict 27 place
  at_texts place line up_to x y rest = first_passes (is_wrong line) 26 place _ x ∙ first_holds (not (texts_fit room up_to)) 27 place _ (ap not y)

  at_rows : (place : ℕ) (line : Heard) (up_to : List Triple) → is_wrong line ≡ false → texts_fit room up_to ≡ true → rows_fit_lem room up_to ≡ false →
      (rest : List Check) → first (line_checks room place line up_to ++ rest) ≡ verdict 12 place
  at_rows place line up_to x y z rest =
      first_passes (is_wrong line) 26 place _ x
      ∙ first_passes (not (texts_fit room up_to)) 27 place _ (ap not y)
      ∙ first_holds (not (rows_fit_lem room up_to)) 12 place rest (ap not z)

  rows_fit : {up_to : List Triple} {es : List Entry} {rows : List Row} → Holds kind a room up_to es rows → rows_fit_lem room up_to ≡ true
  rows_fit {up_to} h = le-leb (length (different_triples up_to)) room.rows (omega (arith, h.count_is, h.fit))

  module _ (place : ℕ) (ts : List Triple) (es : List Entry) (rows : List Row) (h : Holds kind a room ts es rows) where
    -- a line that says nothing
    nothing-on : LineFate place (Heard.heard grammar.Said.nothing) (ts ++ []) es rows
    nothing-on =
        let k : Holds kind a room (ts ++ []) es rows = subst (λ (l : List Triple). Holds kind a room l es rows) (sym (append-nil ts)) h in
        on es rows k (passed place (Heard.heard grammar.Said.nothing) (ts ++ []) refl (kept-fits k.kept) (rows_fit k)) (λ next. refl)

    -- a line that is not N-Triples
    wrong-stop : LineFate place Heard.wrong (ts ++ []) es rows
    wrong-stop = stop 26 (omega arith) (λ rest. first_holds true 26 place _ refl) (λ next. refl)

    -- a line that says a triple
    module _ (s p o : grammar.Term) (say : Sayable s p o) where
      abbrev t : Triple
      t = triple_said s p o

      abbrev up_to : List Triple
      up_to = ts ++ (t ∷ [])

      abbrev line : Heard
      line = Heard.heard (grammar.Said.says s p o)

      abbrev ts₀ : List Meant
      ts₀ = different_texts ts

      abbrev ts₁ : List Meant
      ts₁ = met_with ts₀ (meant_term s)

      abbrev ts₂ : List Meant
      ts₂ = met_with ts₁ (meant_term p)

      abbrev ts₃ : List Meant
      ts₃ = met_with ts₂ (meant_term o)

      texts_are : different_texts up_to ≡ ts₃
      texts_are =
          ap (met_after same_meant []) (each_append texts_in ts (t ∷ []) ∙ ap (λ (l : List Meant). each texts_in ts ++ l) (each-one texts_in t))
          ∙ met-append same_meant [] (each texts_in ts) (texts_in t)
          ∙ met-append same_meant ts₀ (besides (meant_term s)) (besides (meant_term p) ++ besides (meant_term o))
          ∙ met-append same_meant ts₁ (besides (meant_term p)) (besides (meant_term o))

      abbrev third : (List Entry → List Row → Read) → ℕ → ℕ → ℕ → List Entry → Read
      third next x y z es₃ = add_triple kind a room place x y z rows (λ more. next es₃ more)

      abbrev second : (List Entry → List Row → Read) → ℕ → ℕ → List Entry → Read
      second next x y es₂ = enter_term room place es₂ o (third next x y)

      abbrev after : (List Entry → List Row → Read) → ℕ → List Entry → Read
      after next x es₁ = enter_term room place es₁ p (second next x)

      full_stop : fits room ts₃ ≡ false → ((next : List Entry → List Row → Read) → read_line kind a room place line es rows next ≡ refused 27 place) → LineFate place line up_to es rows
      full_stop e is = stop 27 (omega arith) (at_texts place line up_to refl (ap (fits room) texts_are ∙ e)) is

      module _ (x y z : ℕ) (es₃ : List Entry) (kept : Kept room ts₃ es₃) (keeps : Keeps es es₃)
          (sx : known es₃ (sort_of_term s) (text_of_term s) ≡ Lookup.number x) (sy : known es₃ (sort_of_term p) (text_of_term p) ≡ Lookup.number y)
          (sz : known es₃ (sort_of_term o) (text_of_term o) ≡ Lookup.number z)
          (is : (next : List Entry → List Row → Read) → read_line kind a room place line es rows next ≡ third next x y z es₃) where
        abbrev r : Row
        r = row x y z a

        few : length es₃ ≤ 512
        few = omega (arith, kept.few)

        legal-row : LegalRow kind r
        legal-row =
            let i = (known-means kept.made few (sort_of_term s) (text_of_term s) x sx).0 in
            let j = (known-means kept.made few (sort_of_term p) (text_of_term p) y sy).0 in
            let k = (known-means kept.made few (sort_of_term o) (text_of_term o) z sz).0 in
            record {
              subject = sort-legal x (omega (arith, i, sort-few s));
              predicate = eq-eqb (sort_of y) 0 (j ∙ say.predicate);
              object = sort-legal z (omega (arith, k, sort-few o));
              annotation = legal;
            }

        kept-up_to : Kept room (different_texts up_to) es₃
        kept-up_to = subst (λ (l : List Meant). Kept room l es₃) (sym texts_are) kept

        stands : Stands es₃ r t
        stands = record { s-is = sx; p-is = sy; o_is = sz }

        count : length (add_row (algebra kind) r rows) ≡ length (different_triples up_to)
        count = held-count kind a room small ts es rows h t es₃ kept-up_to keeps r stands refl legal-row

        row_fate : LineFate place line up_to es rows
        row_fate = which (ltb room.rows (length (add_row (algebra kind) r rows))) refl
          where
            which : (b : Bool) → ltb room.rows (length (add_row (algebra kind) r rows)) ≡ b → LineFate place line up_to es rows
            which true e =
                let over = ltb-true room.rows (length (add_row (algebra kind) r rows)) e in
                stop 12 (omega arith)
                (at_rows place line up_to refl (kept-fits kept-up_to) (lt-leb (length (different_triples up_to)) room.rows (omega (arith, over, count))))
                (λ next. is next ∙ ap (λ (b : Bool). when_room b place (λ _. next es₃ (add_row (algebra kind) r rows))) e)
            which false e =
                let within = ltb-false room.rows (length (add_row (algebra kind) r rows)) e in
                let k = held_on kind a room small ts es rows h t es₃ kept-up_to keeps r stands refl legal-row within in
                on es₃ (add_row (algebra kind) r rows) k (passed place line up_to refl (kept-fits kept-up_to) (rows_fit k))
                (λ next. is next ∙ ap (λ (b : Bool). when_room b place (λ _. next es₃ (add_row (algebra kind) r rows))) e)

      triple-fate : LineFate place line up_to es rows
      triple-fate = by_subject (enter_fate room small place ts₀ es h.kept s say.has-s)
        where
          by_object : (x y : ℕ) (es₁ es₂ : List Entry) → Keeps es es₂ →
              known es₂ (sort_of_term s) (text_of_term s) ≡ Lookup.number x → known es₂ (sort_of_term p) (text_of_term p) ≡ Lookup.number y →
              ((next : List Entry → List Row → Read) → read_line kind a room place line es rows next ≡ second next x y es₂) →
              Fate room place ts₂ es₂ o → LineFate place line up_to es rows
          by_object x y es₁ es₂ keeps kx ky is (goes z es₃ kept kz more eq) =
              row_fate x y z es₃ kept (λ sort word n q. more sort word n (keeps sort word n q))
              (more (sort_of_term s) (text_of_term s) x kx) (more (sort_of_term p) (text_of_term p) y ky) kz
              (λ next. is next ∙ eq (third next x y))
          by_object x y es₁ es₂ keeps kx ky is (full e eq) = full_stop e (λ next. is next ∙ eq (third next x y))

          by_predicate : (x : ℕ) (es₁ : List Entry) → Kept room ts₁ es₁ → Keeps es es₁ → known es₁ (sort_of_term s) (text_of_term s) ≡ Lookup.number x →
              ((next : List Entry → List Row → Read) → read_line kind a room place line es rows next ≡ after next x es₁) →
              Fate room place ts₁ es₁ p → LineFate place line up_to es rows
          by_predicate x es₁ kept₁ keeps kx is (goes y es₂ kept ky more eq) =
              by_object x y es₁ es₂ (λ sort word n q. more sort word n (keeps sort word n q)) (more (sort_of_term s) (text_of_term s) x kx) ky
              (λ next. is next ∙ eq (second next x)) (enter_fate room small place ts₂ es₂ kept o say.has-o)
          by_predicate x es₁ kept₁ keeps kx is (full e eq) =
              full_stop (grown_fits room ts₂ (besides (meant_term o)) e) (λ next. is next ∙ eq (second next x))

          by_subject : Fate room place ts₀ es s → LineFate place line up_to es rows
          by_subject (goes x es₁ kept kx more eq) =
              by_predicate x es₁ kept more kx (λ next. eq (after next)) (enter_fate room small place ts₁ es₁ kept p say.has_p)
          by_subject (full e eq) =
              full_stop (grown_fits room ts₂ (besides (meant_term o)) (grown_fits room ts₁ (besides (meant_term p)) e)) (λ next. eq (after next))

    pub line-fate : (bytes : List ℕ) (line : Heard) → said_by (line_of (chars_of bytes)) ≡ line → LineFate place line (ts ++ triples_said line) es rows
    line-fate bytes Heard.wrong e = wrong-stop
    line-fate bytes (Heard.heard grammar.Said.nothing) e = nothing-on
    line-fate bytes (Heard.heard (grammar.Said.says s p o)) e = triple-fate s p o (says-sayable (heard-line bytes (grammar.Said.says s p o) e).says)

  -- ---- all lines

  pub record Outcome (ts : List Triple) (ls : List LineAt) (r : Read) : Type 0 where
    pub verdict_is : r.verdict_of ≡ first (lines_checks room ts ls)
    pub holds : r.verdict_of ≡ done → Holds kind a room (ts ++ triples_in ls) r.entries r.rows

  pub lines_read : (ls : List LineAt) (ts : List Triple) (es : List Entry) (rows : List Row) → Holds kind a room ts es rows → Outcome ts ls (read_lines kind a room ls es rows)
  unfolding read_lines lines_checks first each
  lines_read [] ts es rows h = record { verdict_is = refl; holds = λ e. subst (λ (l : List Triple). Holds kind a room l es rows) (sym (append-nil ts)) h }
  lines_read (l ∷ ls) ts es rows h = by_line (line-fate l.place ts es rows h l.bytes (heard_in l) refl) (λ ts₁ es₁ rows₁ k. lines_read ls ts₁ es₁ rows₁ k)
    where
      by_line : LineFate l.place (heard_in l) (ts ++ triples_said (heard_in l)) es rows →
          ((ts₁ : List Triple) (es₁ : List Entry) (rows₁ : List Row) → Holds kind a room ts₁ es₁ rows₁ → Outcome ts₁ ls (read_lines kind a room ls es₁ rows₁)) →
          Outcome ts (l ∷ ls) (read_lines kind a room (l ∷ ls) es rows)
      by_line (on es₁ rows₁ k pass is) again =
          let up_to : List Triple = ts ++ triples_said (heard_in l) in
          let o = again up_to es₁ rows₁ k in
          let e : read_lines kind a room (l ∷ ls) es rows ≡ read_lines kind a room ls es₁ rows₁ = is (λ (x : List Entry) (y : List Row). read_lines kind a room ls x y) in
          let joined : up_to ++ triples_in ls ≡ ts ++ triples_in (l ∷ ls) = append_assoc ts (triples_said (heard_in l)) (triples_in ls) in
          record {
            verdict_is = ap (λ (r : Read). r.verdict_of) e ∙ o.verdict_is ∙ sym (pass (lines_checks room up_to ls));
            holds = λ d.
                subst (λ (r : Read). Holds kind a room (ts ++ triples_in (l ∷ ls)) r.entries r.rows) (sym e)
                (subst (λ (q : List Triple). Holds kind a room q (read_lines kind a room ls es₁ rows₁).entries (read_lines kind a room ls es₁ rows₁).rows) joined
                (o.holds (ap (λ (r : Read). r.verdict_of) (sym e) ∙ d)));
          }
      by_line (stop number some at is) again =
          let up_to : List Triple = ts ++ triples_said (heard_in l) in
          let e : read_lines kind a room (l ∷ ls) es rows ≡ refused number l.place = is (λ (x : List Entry) (y : List Row). read_lines kind a room ls x y) in
          record {
            verdict_is = ap (λ (r : Read). r.verdict_of) e ∙ sym (at (lines_checks room up_to ls));
            holds = λ d. absurd (let z : number ≡ 0 = ap (λ (r : Read). r.verdict_of.number) (sym e) ∙ ap (λ (v : Verdict). v.number) d in omega (arith, some, z));
          }
