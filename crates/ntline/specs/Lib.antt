-- The definitions that the contracts of `ntline`, and of makers' lists above it, cite.
pub mod Classes
pub mod Grammar
pub mod Escapes
pub mod Lexing
pub mod Kinds
pub mod Lines
pub mod Runs
pub mod Inner
