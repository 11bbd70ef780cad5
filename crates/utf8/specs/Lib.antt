-- The definitions that the contracts of `utf8`, and of makers' lists above it, cite.
pub mod Characters
pub mod Octets
pub mod Texts
