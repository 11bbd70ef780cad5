-- The definitions that the contracts of `printing`, and of the programs above it, cite.
pub mod Text
pub mod Laid
pub mod Examples
