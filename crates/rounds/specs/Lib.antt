-- The definitions that the contracts of `rounds` cite; a reader of `closing` needs none of them.
pub mod Due
pub mod Rounds
