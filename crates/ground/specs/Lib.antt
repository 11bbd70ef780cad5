-- The definitions that the specs of every crate above may cite.
pub mod Lists
pub mod Bits
