-- The checks, the rows past the count, and what saturating comes to.
pub mod Judging
pub mod Wiping
pub mod Whole
-- What is shown of the public call.
pub mod CloseDetermined
pub mod CloseCloses
pub mod ByYear
