-- The head's refusal, check by check as the code meets them; and the lengths of heads. Assumes nothing.
use mathlib.Core.Path.{◌≡◌, refl, sym, ap, ◌∙◌}
use mathlib.Core.Bool.{Bool, true, false, not, cond, ◌||◌}
use mathlib.Core.List.{List, [], ◌∷◌, ◌++◌}
use Prim.Native.Nat.{ℕ, ◌+◌, ◌≤◌, ◌<◌}
use native.Mathlib.Omega.{arith}
use lib.ListN.{length}
use lib.Dec.{eqb}
use borrow.Author.Tests.{eqb-true, eq-eqb, ne_eqb, not-false}
use Rattle.std.specs.Prelude.{Result, Ok, Err}
use Rattle.term.specs.Refusal.{Check, refuse, verdict, first}
use Rattle.term.specs.declared.refusal.Verdict.{Verdict}
use Rattle.term.specs.declared.refusal.Refused.{Refused}
use Rattle.term.specs.Refused.{verdict_of}
use Rattle.annotation.specs.declared.Kind.{Kind}
use Rattle.annotation.specs.Numbered.{kind_number}
use Rattle.ruleset.specs.declared.RuleSet.{RuleSet}
use Rattle.ruleset.specs.Numbered.{set_number}
use Rattle.term.proofs.Firsts.{first-none}
use Rattle.ruleset.specs.RuleSet.{rule_set_checks}
use Rattle.ruleset.proofs.Judged.{rule_set_numbered, rule_set_at}
use Rattle.annotation.specs.Kinds.{kind_checks}
use Rattle.annotation.proofs.Judged.{kind-numbered, kind_at}
use Rattle.field.specs.Fields.{is_cut_lem, tag_at, size_at, behind}
use Rattle.field.proofs.Reading.{WholeField}
use Rattle.book.specs.declared.content.Head.{Head}
use Rattle.book.specs.Format.{first_edition, second_edition, is_edition, head_length_lem, is_head_length, is_base, head_says_checks, head_content_checks, head_checks, head_edition, head_kind, head_base, head_rules, base_checks}
use Rattle.book.specs.Inner.{RefusedBy, HeadBy, HeadField, HeadSuited, HeadSays, HeadContent, HeadOf}
use Rattle.book.proofs.Checked.{Past, nothing_past, refused_by, passed, stopped, passed_all, stopped_at}

-- a head's length is 4 or 5
four_or_five : (t : Bool) → (4 ≤ cond t 5 4) × (cond t 5 4 ≤ 5)
four_or_five true = (omega arith, omega arith)
four_or_five false = (omega arith, omega arith)

pub length_from : (edition : ℕ) → 4 ≤ head_length_lem edition
length_from edition = (four_or_five (eqb edition second_edition)).0

pub length_to : (edition : ℕ) → head_length_lem edition ≤ 5
length_to edition = (four_or_five (eqb edition second_edition)).1

pub head_length-from : (size : ℕ) → is_head_length size ≡ true → 4 ≤ size
head_length-from size h = go (eqb size (head_length_lem first_edition)) refl h
  where
    go : (t : Bool) → eqb size (head_length_lem first_edition) ≡ t → (t || eqb size (head_length_lem second_edition)) ≡ true → 4 ≤ size
    go true e q = omega (arith, eqb-true size (head_length_lem first_edition) e)
    go false e q = omega (arith, eqb-true size (head_length_lem second_edition) q)

-- a head that suits its edition, and the rule set of the second
module _ (b : List ℕ) (edition next : ℕ) (suits : HeadSuited b edition next) where
  pub rules-within : edition ≡ second_edition → 8 ≤ length b
  rules-within e =
      let five : head_length_lem edition ≡ 5 = rw e refl in
      omega (arith, suits.fits, five)

module _ (b : List ℕ) where
  pub suited : (size : ℕ) → HeadField b size → size ≡ head_length_lem (head_edition b) → HeadSuited b (head_edition b) (3 + size)
  suited size f e = record { edition_is = refl; fits = rw (← e) f.fits; next_is = ap (λ (k : ℕ). 0 + 3 + k) f.size_is }

  -- what is said where the checks left over pass is said where all pass
  pub head_behind : (all checks : List Check) → Past all checks → (r : Result Head Refused) → HeadBy checks b r → HeadBy all b r
  head_behind all checks h (Ok x) s = record { passes = h.is ∙ s.passes; kind_is = s.kind_is; base_is = s.base_is; rules_is = s.rules_is; next_is = s.next_is }
  head_behind all checks h (Err e) s = refused_by all checks h (verdict_of e) s

  -- kind, base year, rule set
  abbrev all : List Check
  all = head_says_checks b

  module _ (n : ℕ) (e : n ≡ (first (kind_checks (head_kind b) 0)).number) where
    pub head_by_kind : 0 < n → (v : Verdict) → v ≡ verdict n 0 → RefusedBy all v
    head_by_kind q v ev = stopped_at all (kind_checks (head_kind b) 0) _ n e (nothing_past all) 0 (kind_at (head_kind b) 0) q v ev

    module _ (z : n ≡ 0) (base : ℕ) (eb : base ≡ head_base b) (w : Bool) (ew : w ≡ is_base (head_kind b) base) where
      past_kind : Past all (base_checks (head_kind b) (head_base b) 0 ++ rule_set_checks (head_rules b) 0)
      past_kind = passed_all all (kind_checks (head_kind b) 0) _ n e (nothing_past all) (kind-numbered (head_kind b) 0) z

      base_judged : not w ≡ not (is_base (head_kind b) (head_base b))
      base_judged = rw (← eb, ew) refl

      pub head_by_base : not w ≡ true → (v : Verdict) → v ≡ verdict 5 0 → RefusedBy all v
      head_by_base q v ev = stopped all _ 5 0 _ past_kind (sym base_judged ∙ q) (omega arith) v ev

      module _ (q : not w ≡ false) (rules : ℕ) (er : rules ≡ head_rules b) (u : ℕ) (eu : u ≡ (first (rule_set_checks rules 0)).number) where
        past_base : Past all (rule_set_checks (head_rules b) 0)
        past_base = passed all _ 5 0 _ past_kind (sym base_judged ∙ q)

        rules_judged : u ≡ (first (rule_set_checks (head_rules b) 0)).number
        rules_judged = rw (← er) eu

        pub head_by_rules : 0 < u → (v : Verdict) → v ≡ verdict u 0 → RefusedBy all v
        head_by_rules h v ev = stopped_at all (rule_set_checks (head_rules b) 0) [] u rules_judged past_base 0 (rule_set_at (head_rules b) 0) h v ev

        pub head_said : u ≡ 0 → (k : Kind) → kind_number k ≡ head_kind b → (set : RuleSet) → set_number set ≡ rules → (next : ℕ) → next ≡ behind b 0
            → HeadSays b (Ok (record { kind = k; base = base; rules = set; next = next }))
        head_said h k ek set es next en = record {
          passes = (passed_all all (rule_set_checks (head_rules b) 0) [] u rules_judged past_base (rule_set_numbered (head_rules b) 0) h).is ∙ first-none;
          kind_is = ek;
          base_is = eb;
          rules_is = es ∙ er;
          next_is = en;
        }

  -- edition, and the length that suits it
  module _ (w : Bool) (ew : w ≡ is_edition (head_edition b)) where
    pub content_by_edition : not w ≡ true → (v : Verdict) → v ≡ verdict 3 0 → RefusedBy (head_content_checks b) v
    content_by_edition q v ev = stopped (head_content_checks b) _ 3 0 _ (nothing_past (head_content_checks b)) (ap not (sym ew) ∙ q) (omega arith) v ev

    module _ (q : not w ≡ false) (size : ℕ) (es : size ≡ size_at b 0) (long : ℕ) (el : long ≡ head_length_lem (head_edition b)) where
      past_edition : Past (head_content_checks b) (refuse (not (eqb (size_at b 0) (head_length_lem (head_edition b)))) 2 0 ∷ head_says_checks b)
      past_edition = passed (head_content_checks b) _ 3 0 _ (nothing_past (head_content_checks b)) (ap not (sym ew) ∙ q)

      length_judged : not (eqb size long) ≡ not (eqb (size_at b 0) (head_length_lem (head_edition b)))
      length_judged = rw (es, el) refl

      pub content_by_length : not (eqb size long) ≡ true → (v : Verdict) → v ≡ verdict 2 0 → RefusedBy (head_content_checks b) v
      content_by_length h v ev = stopped (head_content_checks b) _ 2 0 _ past_edition (sym length_judged ∙ h) (omega arith) v ev

      pub content_behind : not (eqb size long) ≡ false → (r : Result Head Refused) → HeadSays b r → HeadContent b r
      content_behind h r s = head_behind (head_content_checks b) (head_says_checks b) (passed (head_content_checks b) _ 2 0 _ past_edition (sym length_judged ∙ h)) r s

  -- nothing, cut, tag, length, content
  pub head_empty : length b ≤ 0 → RefusedBy (head_checks b) (verdict 2 0)
  head_empty q = stopped (head_checks b) _ 2 0 _ (nothing_past (head_checks b)) (eq-eqb (length b) 0 (omega arith)) (omega arith) _ refl

  past_empty : 0 < length b → Past (head_checks b) (refuse (is_cut_lem b 0) 1 0 ∷ refuse (not (eqb (tag_at b 0) 1)) 2 0 ∷ refuse (not (is_head_length (size_at b 0))) 2 0 ∷ head_content_checks b)
  past_empty q = passed (head_checks b) _ 2 0 _ (nothing_past (head_checks b)) (ne_eqb (length b) 0 (λ z. omega arith))

  pub head_cut : 0 < length b → is_cut_lem b 0 ≡ true → RefusedBy (head_checks b) (verdict 1 0)
  head_cut some q = stopped (head_checks b) _ 1 0 _ (past_empty some) q (omega arith) _ refl

  module _ (tag size : ℕ) (f : WholeField b 0 tag size) where
    past_cut : Past (head_checks b) (refuse (not (eqb tag 1)) 2 0 ∷ refuse (not (is_head_length size)) 2 0 ∷ head_content_checks b)
    past_cut = rw (f.tag_is, f.size_is) (passed (head_checks b) _ 1 0 _ (past_empty f.some) f.not-cut)

    pub head_by_tag : not (eqb tag 1) ≡ true → (v : Verdict) → v ≡ verdict 2 0 → RefusedBy (head_checks b) v
    head_by_tag q v ev = stopped (head_checks b) _ 2 0 _ past_cut q (omega arith) v ev

    module _ (q : not (eqb tag 1) ≡ false) (w : Bool) (ew : w ≡ is_head_length size) where
      past_tag : Past (head_checks b) (refuse (not (is_head_length size)) 2 0 ∷ head_content_checks b)
      past_tag = passed (head_checks b) _ 2 0 _ past_cut q

      pub head_by_size : not w ≡ true → (v : Verdict) → v ≡ verdict 2 0 → RefusedBy (head_checks b) v
      head_by_size h v ev = stopped (head_checks b) _ 2 0 _ past_tag (ap not (sym ew) ∙ h) (omega arith) v ev

      module _ (h : not w ≡ false) where
        pub head_field : HeadField b size
        head_field = record { size_is = f.size_is; fits = f.fits; head_length_lem_2 = sym ew ∙ not-false w h }

        pub head_by_content : (r : Result Head Refused) → HeadContent b r → HeadOf b r
        head_by_content r s = head_behind (head_checks b) (head_content_checks b) (passed (head_checks b) _ 2 0 _ past_tag (ap not (sym ew) ∙ h)) r s
