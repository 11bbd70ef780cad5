-- The definitions that the contracts of `steps`, and the run and the meaning above it, cite.
pub mod Legal
pub mod Lane
pub mod Values
