-- The definitions that the contracts of `nttext`, and of makers' lists above it, cite.
pub mod Texts
pub mod Standing
-- The text as it is laid down from its source: what only the parts of the code cite.
pub mod Laying
-- What they promise each other.
pub mod Inner
