-- A triple field's number and row, check by check as the code meets them; and that legal content is a legal row. Assumes nothing.
use mathlib.Core.Path.{◌≡◌, refl, ap, ◌∙◌}
use mathlib.Core.Bool.{true, false, not}
use mathlib.Core.List.{List, [], ◌∷◌, ◌++◌}
use Prim.Native.Nat.{ℕ, ◌+◌, ◌<◌}
use native.Mathlib.Omega.{arith}
use lib.ListN.{length}
use lib.Dec.{eqb}
use Rattle.std.specs.Prelude.{Result, Ok, Err}
use Rattle.term.specs.Refusal.{Check, refuse, verdict, done, first}
use Rattle.term.specs.Term.{term_checks, predicate_checks}
use Rattle.term.specs.declared.refusal.Verdict.{Verdict}
use Rattle.term.specs.declared.refusal.Refused.{Refused}
use Rattle.term.specs.Refused.{verdict_of}
use Rattle.term.proofs.Firsts.{Numbered, AllAt, first-none, first-split, number-alike, numbered-append, at_append}
use Rattle.term.proofs.Sorts.{term-numbered, term-at, term-alike, predicate-numbered, predicate-at, predicate-alike, passes-term, passes-predicate}
use Rattle.annotation.specs.Kinds.{annotation_checks}
use Rattle.annotation.proofs.Judged.{annotation-numbered, annotation-at, annotation-alike, passes-annotation}
use Rattle.table.specs.Rows.{Row}
use Rattle.table.specs.Sound.{LegalRow}
use Rattle.field.specs.declared.Field.{Field}
use Rattle.field.specs.declared.Field.TheVariants.{End, Cut, Whole}
use Rattle.field.specs.Fields.{field_at_lem, is_cut_lem, tag_at, size_at, behind}
use Rattle.field.proofs.Reading.{WholeField, is-end, is_cut}
use Rattle.book.specs.declared.content.Content.{Content}
use Rattle.book.specs.Format.{triple_length, content_checks, field_checks, row_in}
use Rattle.book.specs.Inner.{RefusedBy, TripleContent, ContentOf}
use Rattle.book.proofs.Checked.{Past, nothing_past, refused_by, passed, stopped, passed_all, stopped_at}

-- the checks behind the subject's, and behind the predicate's
abbrev from_predicate : ℕ → Row → ℕ → List Check
from_predicate kind r p = predicate_checks r.p p ++ (term_checks r.o p ++ annotation_checks kind r.a p)

abbrev from_object : ℕ → Row → ℕ → List Check
from_object kind r p = term_checks r.o p ++ annotation_checks kind r.a p

content_numbered : (kind : ℕ) (r : Row) (p : ℕ) → Numbered (content_checks kind r p)
content_numbered kind r p =
    numbered-append (term_checks r.s p) (from_predicate kind r p) (term-numbered r.s p)
    (numbered-append (predicate_checks r.p p) (from_object kind r p) (predicate-numbered r.p p)
    (numbered-append (term_checks r.o p) (annotation_checks kind r.a p) (term-numbered r.o p) (annotation-numbered kind r.a p)))

content_at : (kind : ℕ) (r : Row) (p : ℕ) → AllAt p (content_checks kind r p)
content_at kind r p =
    at_append p (term_checks r.s p) (from_predicate kind r p) (term-at r.s p)
    (at_append p (predicate_checks r.p p) (from_object kind r p) (predicate-at r.p p)
    (at_append p (term_checks r.o p) (annotation_checks kind r.a p) (term-at r.o p) (annotation-at kind r.a p)))

-- subject, predicate, object, annotation
module _ (kind : ℕ) (b : List ℕ) (at : ℕ) where
  abbrev r : Row
  r = row_in b at

  abbrev checks : List Check
  checks = content_checks kind r at

  module _ (s : ℕ) (es : s ≡ r.s) (n : ℕ) (e : n ≡ (first (term_checks s 0)).number) where
    subject : n ≡ (first (term_checks r.s at)).number
    subject = rw es at e ∙ number-alike (term_checks r.s 0) (term_checks r.s at) (term-alike r.s 0 at)

    pub content_by_subject : 0 < n → (v : Verdict) → v ≡ verdict n at → RefusedBy checks v
    content_by_subject q v ev = stopped_at checks (term_checks r.s at) _ n subject (nothing_past checks) at (term-at r.s at) q v ev

    module _ (z : n ≡ 0) (p : ℕ) (ep : p ≡ r.p) (m : ℕ) (em : m ≡ (first (predicate_checks p 0)).number) where
      past_subject : Past checks (from_predicate kind r at)
      past_subject = passed_all checks (term_checks r.s at) _ n subject (nothing_past checks) (term-numbered r.s at) z

      predicate : m ≡ (first (predicate_checks r.p at)).number
      predicate = rw ep at em ∙ number-alike (predicate_checks r.p 0) (predicate_checks r.p at) (predicate-alike r.p 0 at)

      pub content_by_predicate : 0 < m → (v : Verdict) → v ≡ verdict m at → RefusedBy checks v
      content_by_predicate q v ev = stopped_at checks (predicate_checks r.p at) _ m predicate past_subject at (predicate-at r.p at) q v ev

      module _ (zm : m ≡ 0) (o : ℕ) (eo : o ≡ r.o) (k : ℕ) (ek : k ≡ (first (term_checks o 0)).number) where
        past_predicate : Past checks (from_object kind r at)
        past_predicate = passed_all checks (predicate_checks r.p at) _ m predicate past_subject (predicate-numbered r.p at) zm

        object : k ≡ (first (term_checks r.o at)).number
        object = rw eo at ek ∙ number-alike (term_checks r.o 0) (term_checks r.o at) (term-alike r.o 0 at)

        pub content_by_object : 0 < k → (v : Verdict) → v ≡ verdict k at → RefusedBy checks v
        content_by_object q v ev = stopped_at checks (term_checks r.o at) _ k object past_predicate at (term-at r.o at) q v ev

        module _ (zk : k ≡ 0) (a : ℕ) (ea : a ≡ r.a) (j : ℕ) (ej : j ≡ (first (annotation_checks kind a 0)).number) where
          past_object : Past checks (annotation_checks kind r.a at ++ [])
          past_object = passed_all checks (term_checks r.o at) _ k object past_predicate (term-numbered r.o at) zk

          annotated : j ≡ (first (annotation_checks kind r.a at)).number
          annotated = rw ea at ej ∙ number-alike (annotation_checks kind r.a 0) (annotation_checks kind r.a at) (annotation-alike kind r.a 0 at)

          pub content_by_annotation : 0 < j → (v : Verdict) → v ≡ verdict j at → RefusedBy checks v
          content_by_annotation q v ev = stopped_at checks (annotation_checks kind r.a at) [] j annotated past_object at (annotation-at kind r.a at) q v ev

          pub content_said : j ≡ 0 → (next : ℕ) → TripleContent kind b at next (Ok (record { row = record { s = s; p = p; o = o; a = a }; next = next }))
          content_said zj next = record {
            passes = (passed_all checks (annotation_checks kind r.a at) [] j annotated past_object (annotation-numbered kind r.a at) zj).is ∙ first-none;
            row_is = rw (es, ep, eo, ea) refl;
            next_is = refl;
          }

pub content_legal : (kind : ℕ) (r : Row) (p : ℕ) → first (content_checks kind r p) ≡ done → LegalRow kind r
content_legal kind r p e =
    let s = passes-term r.s p _ e in
    let q = passes-predicate r.p p _ s.1 in
    let o = passes-term r.o p _ q.1 in
    let a = passes-annotation kind r.a p [] o.1 in
    record { subject = s.0; predicate = q.0; object = o.0; annotation = a.0 }

pub field_numbered : (kind : ℕ) (b : List ℕ) (at : ℕ) → Numbered (field_checks kind b at)
field_numbered kind b at = (omega arith, (omega arith, (omega arith, (omega arith, content_numbered kind (row_in b at) at))))

pub field_at : (kind : ℕ) (b : List ℕ) (at : ℕ) → AllAt at (field_checks kind b at)
field_at kind b at = (refl, (refl, (refl, (refl, content_at kind (row_in b at) at))))

-- cut, second head, tag, length, content
module _ (kind : ℕ) (b : List ℕ) (at : ℕ) where
  abbrev fields : List Check
  fields = field_checks kind b at

  cut_unless_whole : at < length b → (f : Field) → f ≡ field_at_lem b at → ((tag size : ℕ) → f ≡ Whole tag size → ⊥) → is_cut_lem b at ≡ true
  cut_unless_whole some End e n = absurd (omega (arith, is-end b at e))
  cut_unless_whole some Cut e n = (is_cut b at e).1
  cut_unless_whole some (Whole tag size) e n = absurd (n tag size refl)

  pub field_by_cut : at < length b → (f : Field) → f ≡ field_at_lem b at → ((tag size : ℕ) → f ≡ Whole tag size → ⊥) → RefusedBy fields (verdict 1 at)
  field_by_cut some f e n = stopped fields _ 1 at _ (nothing_past fields) (cut_unless_whole some f e n) (omega arith) _ refl

  -- what the content says is what the field says
  field_behind : Past fields (content_checks kind (row_in b at) at) → (next : ℕ) → next ≡ behind b at → (r : Result Content Refused) → TripleContent kind b at next r → ContentOf kind b at r
  field_behind h next en (Ok c) s = record { passes = h.is ∙ s.passes; row_is = s.row_is; next_is = s.next_is ∙ en }
  field_behind h next en (Err e) s = refused_by fields _ h (verdict_of e) s

  module _ (tag size : ℕ) (f : WholeField b at tag size) where
    past_cut : Past fields (refuse (eqb tag 1) 2 at ∷ refuse (not (eqb tag 3)) 6 at ∷ refuse (not (eqb size triple_length)) 7 at ∷ content_checks kind (row_in b at) at)
    past_cut = rw (f.tag_is, f.size_is) (passed fields _ 1 at _ (nothing_past fields) f.not-cut)

    pub field_by_head : eqb tag 1 ≡ true → (v : Verdict) → v ≡ verdict 2 at → RefusedBy fields v
    field_by_head q v ev = stopped fields _ 2 at _ past_cut q (omega arith) v ev

    module _ (no : eqb tag 1 ≡ false) where
      past_head : Past fields (refuse (not (eqb tag 3)) 6 at ∷ refuse (not (eqb size triple_length)) 7 at ∷ content_checks kind (row_in b at) at)
      past_head = passed fields _ 2 at _ past_cut no

      pub field_by_tag : not (eqb tag 3) ≡ true → (v : Verdict) → v ≡ verdict 6 at → RefusedBy fields v
      field_by_tag q v ev = stopped fields _ 6 at _ past_head q (omega arith) v ev

      module _ (is-triple : not (eqb tag 3) ≡ false) where
        past_tag : Past fields (refuse (not (eqb size triple_length)) 7 at ∷ content_checks kind (row_in b at) at)
        past_tag = passed fields _ 6 at _ past_head is-triple

        pub field_by_size : not (eqb size triple_length) ≡ true → (v : Verdict) → v ≡ verdict 7 at → RefusedBy fields v
        field_by_size q v ev = stopped fields _ 7 at _ past_tag q (omega arith) v ev

        pub field_by_content : not (eqb size triple_length) ≡ false → (r : Result Content Refused) → TripleContent kind b at (at + 3 + size) r → ContentOf kind b at r
        field_by_content q r s = field_behind (passed fields _ 7 at _ past_tag q) (at + 3 + size) (ap (λ (k : ℕ). at + 3 + k) f.size_is) r s

-- a field that passes has legal content
pub field_legal : (kind : ℕ) (b : List ℕ) (at : ℕ) → first (field_checks kind b at) ≡ done → LegalRow kind (row_in b at)
field_legal kind b at e =
    let e1 = first-split 1 at (is_cut_lem b at) _ (omega arith) e in
    let e2 = first-split 2 at (eqb (tag_at b at) 1) _ (omega arith) e1.1 in
    let e6 = first-split 6 at (not (eqb (tag_at b at) 3)) _ (omega arith) e2.1 in
    let e7 = first-split 7 at (not (eqb (size_at b at) triple_length)) _ (omega arith) e6.1 in
    content_legal kind (row_in b at) at e7.1
