-- Refusals as the code has them, by the document's numbers.
use Rattle.std.specs.Prelude.{ℕ, Result, Ok, Err}
use Rattle.term.specs.declared.refusal.Verdict.{Verdict}
use Rattle.term.specs.declared.refusal.Refusal.{Refusal}
use Rattle.term.specs.declared.refusal.Refused.{Refused}
use Rattle.term.specs.declared.refusal.Refusal.TheVariants.{CutShort, NoHead, WrongEdition, WrongKind, WrongBase, WrongTag, WrongLength, IllegalTerm, NotAName, IllegalAnnotation, LanesUnfit, NoRoom, TooLong, CountPastLanes, NotAbove, Misfit, WrongPart, WrongShape, WrongVariable, TooManyParts, NotBound, StandsOutside, StepsIllegal, LooksUsedUp, NotNTriples, NoNames, MissesLarger, WrongRuleSet, NoText}
use Rattle.term.specs.Refusal.{verdict, done}

abbrev pub refusal_number : Refusal → ℕ
refusal_number CutShort = 1
refusal_number NoHead = 2
refusal_number WrongEdition = 3
refusal_number WrongKind = 4
refusal_number WrongBase = 5
refusal_number WrongTag = 6
refusal_number WrongLength = 7
refusal_number IllegalTerm = 8
refusal_number NotAName = 9
refusal_number IllegalAnnotation = 10
refusal_number LanesUnfit = 11
refusal_number NoRoom = 12
refusal_number TooLong = 13
refusal_number CountPastLanes = 14
refusal_number NotAbove = 15
refusal_number Misfit = 16
refusal_number WrongPart = 17
refusal_number WrongShape = 18
refusal_number WrongVariable = 19
refusal_number TooManyParts = 20
refusal_number NotBound = 21
refusal_number StandsOutside = 22
refusal_number StepsIllegal = 23
refusal_number LooksUsedUp = 24
refusal_number NotNTriples = 26
refusal_number NoNames = 27
refusal_number MissesLarger = 28
refusal_number WrongRuleSet = 36
refusal_number NoText = 39

-- what was judged, as a number: 0 is done
abbrev pub number_in : {A : Type 0} → Result A Refusal → ℕ
number_in (Ok a) = 0
number_in (Err e) = refusal_number e

-- .. and as a number and a place
abbrev pub verdict_of : Refused → Verdict
verdict_of e = verdict (refusal_number e.why) e.place

abbrev pub verdict_in : {A : Type 0} → Result A Refused → Verdict
verdict_in (Ok a) = done
verdict_in (Err e) = verdict_of e
