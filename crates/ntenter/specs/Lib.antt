-- The definitions that the contracts of `ntenter`, and of reading above it, cite.
pub mod Line
-- What the parts of the code promise one another.
pub mod Inner
-- As the lanes are lent.
pub mod Lent
