-- The definitions that the contracts of `ntnumber` cite.
pub mod Numbering
pub mod Lent
