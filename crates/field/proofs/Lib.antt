-- Laws that belong to no one function.
pub mod Writing
pub mod Reading
pub mod Back
-- What a walk of a loop by hand wants; none is left.
pub mod Looping
