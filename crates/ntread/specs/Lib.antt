-- The definitions that the contract of reading a makers' list cites.
pub mod Reading
-- What the parts of the code promise one another.
pub mod Inner
-- As the lanes are lent.
pub mod Lent
