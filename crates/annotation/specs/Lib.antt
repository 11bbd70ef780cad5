-- The definitions that the contracts of `annotation`, and the theory above it, cite.
pub mod Algebra
pub mod Combinations
pub mod Kinds
pub mod Examples
pub mod Numbered
