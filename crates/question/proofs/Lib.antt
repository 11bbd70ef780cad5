-- Laws that belong to no one function.
pub mod Lanes
pub mod Laws
pub mod Ends
pub mod Slotted
pub mod Faithful
pub mod Made
pub mod Lanewise
pub mod Judged
pub mod Outcomes
pub mod StepLimit
pub mod ValuesHold
pub mod AtMost
pub mod TargetsLeadOn
pub mod ZeroIsDone
pub mod AfterReading
pub mod Asked
pub mod CompilingDetermined
