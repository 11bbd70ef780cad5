-- The definitions that the contracts of `termset`, and of the rounds above it, cite.
pub mod Termset
