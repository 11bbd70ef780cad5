-- How a table rises, and a loop of risings.
pub mod Rising
-- A conclusion put in, the rows that a plan meets, and a walk along them.
pub mod Raising
pub mod Neighbours
pub mod Walking
