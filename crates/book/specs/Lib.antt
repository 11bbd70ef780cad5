-- The definitions that the contracts of `book`, and of every crate above it, cite.
pub mod Format
pub mod Reading
pub mod Writing
pub mod Inner
pub mod Values
