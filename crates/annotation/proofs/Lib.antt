-- Laws that belong to no one function.
pub mod Order
pub mod Combinations
pub mod SixMasks
pub mod KindLaws
pub mod AtMostIs
pub mod Legal
pub mod Judged
pub mod Which
pub mod AndExamplesHold
pub mod SheetExamplesHold
pub mod Known
