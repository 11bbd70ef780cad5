-- Laws that belong to no one function, bottom to top.
pub mod Laid
pub mod Opening
pub mod Inserting
pub mod Ordering
pub mod Values
pub mod Totals
pub mod Soundness
pub mod Judging
pub mod Putting
pub mod Searching
pub mod SameGraph
pub mod Many
pub mod Adds
-- What is shown of the public calls.
pub mod RowOrder
pub mod CheckDetermined
pub mod AddDetermined
pub mod AddKeepsSound
pub mod AddTwice
pub mod ExamplesHold
