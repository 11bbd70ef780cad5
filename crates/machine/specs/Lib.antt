-- The definitions that the contracts of `machine`, and the meaning above it, cite.
pub mod Trace
pub mod Bounded
pub mod Running
pub mod Going
pub mod Working
