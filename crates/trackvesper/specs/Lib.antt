-- The definitions that the exported call's contract cites, and the third condition for the public calls.
pub mod Answered
pub mod ClosedBook
pub mod Triples
