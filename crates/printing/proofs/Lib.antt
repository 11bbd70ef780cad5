-- What the proofs of `printing`'s functions and of the programs above it use.
pub mod Digits
pub mod Laying
pub mod Chunks
