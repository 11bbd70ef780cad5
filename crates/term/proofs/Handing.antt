-- What `?` hands on: a refusal's number is not 0, and stands for whatever list of checks gave it. Assumes nothing.
use Rattle.std.proofs.Common.{◌≡◌, Result, Ok, Err, refl, eqb, Bool, true, false, not, cond, ℕ, [], ◌<◌, ◌++◌, List, sym, ap, ◌∙◌, arith, lit<}
use Rattle.term.specs.declared.refusal.Refusal.{Refusal}
use Rattle.term.specs.declared.refusal.Refusal.TheVariants.{CutShort, NoHead, WrongEdition, WrongKind, WrongBase, WrongTag, WrongLength, IllegalTerm, NotAName, IllegalAnnotation, LanesUnfit, NoRoom, TooLong, CountPastLanes, NotAbove, Misfit, WrongPart, WrongShape, WrongVariable, TooManyParts, NotBound, StandsOutside, StepsIllegal, LooksUsedUp, NotNTriples, NoNames, MissesLarger, WrongRuleSet, NoText}
use Rattle.term.specs.declared.refusal.Verdict.{Verdict}
use Rattle.term.specs.Refusal.{Check, verdict, done, first}
use Rattle.term.specs.Refused.{refusal_number, number_in}
use Rattle.term.specs.Term.{is_legal_term, term_checks}
use borrow.Author.Tests.{not-false, ne_eqb}
use Rattle.std.specs.Result.{is_ok}
use Rattle.term.proofs.Firsts.{first_stops, number-split}

pub refusal_numbered : (e : Refusal) → 0 < refusal_number e
refusal_numbered CutShort = lit< tt
refusal_numbered NoHead = lit< tt
refusal_numbered WrongEdition = lit< tt
refusal_numbered WrongKind = lit< tt
refusal_numbered WrongBase = lit< tt
refusal_numbered WrongTag = lit< tt
refusal_numbered WrongLength = lit< tt
refusal_numbered IllegalTerm = lit< tt
refusal_numbered NotAName = lit< tt
refusal_numbered IllegalAnnotation = lit< tt
refusal_numbered LanesUnfit = lit< tt
refusal_numbered NoRoom = lit< tt
refusal_numbered TooLong = lit< tt
refusal_numbered CountPastLanes = lit< tt
refusal_numbered NotAbove = lit< tt
refusal_numbered Misfit = lit< tt
refusal_numbered WrongPart = lit< tt
refusal_numbered WrongShape = lit< tt
refusal_numbered WrongVariable = lit< tt
refusal_numbered TooManyParts = lit< tt
refusal_numbered NotBound = lit< tt
refusal_numbered StandsOutside = lit< tt
refusal_numbered StepsIllegal = lit< tt
refusal_numbered LooksUsedUp = lit< tt
refusal_numbered NotNTriples = lit< tt
refusal_numbered NoNames = lit< tt
refusal_numbered MissesLarger = lit< tt
refusal_numbered WrongRuleSet = lit< tt
refusal_numbered NoText = lit< tt

-- checks that refuse, refuse whatever follows
pub refused_by-front : (e : Refusal) (cs ds : List Check) → refusal_number e ≡ (first cs).number → refusal_number e ≡ (first (cs ++ ds)).number
refused_by-front e cs ds h = h ∙ sym (ap (λ (v : Verdict). v.number) (first_stops cs ds (omega (arith, refusal_numbered e, h))))

-- a term that was judged legal is
pub passed-legal : (t : ℕ) → 0 ≡ (first (term_checks t 0)).number → is_legal_term t ≡ true
passed-legal t h = not-false _ (number-split (not (is_legal_term t)) 8 0 [] (lit< tt) (sym h)).0

-- a term that is refused is refused by 8
pub refused_by8 : (t n : ℕ) → n ≡ (first (term_checks t 0)).number → 0 < n → n ≡ 8
unfolding first
refused_by8 t n h k = go (is_legal_term t) h
  where
    go : (b : Bool) → n ≡ (cond (not b) (verdict 8 0) done).number → n ≡ 8
    go true e = absurd (omega arith)
    go false e = e

-- what was judged legal has no number
pub ok-numbered : (r : Result (Unit {0}) Refusal) → is_ok r ≡ eqb (number_in r) 0
ok-numbered (Ok u) = refl
ok-numbered (Err e) = sym (ne_eqb (refusal_number e) 0 (λ z. omega (arith, refusal_numbered e)))
