-- The definitions that the contracts of `parts`, and of what compiles and runs questions, cite.
pub mod Part
pub mod Format
pub mod Bound
pub mod Outside
pub mod Surely
pub mod Legal
pub mod Writing
pub mod Holding
