-- The definitions that the contract of writing a makers' list cites, and what is shown of both calls.
pub mod Writing
-- What only the parts of the code cite.
pub mod Inner
-- What is shown of both calls.
pub mod Shown
