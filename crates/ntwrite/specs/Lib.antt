-- The definitions that the contracts of `ntwrite`, and of makers' lists above it, cite.
pub mod Written
pub mod Listed
