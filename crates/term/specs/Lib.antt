-- The definitions that the contracts of `term`, and of every crate above it, cite.
pub mod Refusal
pub mod Term
pub mod Refused
