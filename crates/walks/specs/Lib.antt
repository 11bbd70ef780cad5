-- The definitions that the contracts of `walks`, and of the rounds above it, cite.
pub mod Rising
pub mod Walks
