-- The definitions that the contracts of `table`, and of every crate above it, cite.
pub mod Rows
pub mod Checks
pub mod Sound
pub mod Order
pub mod Adding
pub mod Places
pub mod Putting
pub mod Examples
pub mod Lent
pub mod Puts
