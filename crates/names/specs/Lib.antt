-- The definitions that the contracts of `names`, and of makers' lists above it, cite.
pub mod Five
pub mod Names
pub mod Lent
pub mod Entering
-- What only the parts of the code cite.
pub mod Finding
pub mod Hashed
pub mod Read
