-- A row goes on obeying its plans while nothing that it can meet rises.
pub mod Staying
-- What a round has settled.
pub mod Settling
-- The next row that is due.
pub mod Marking
-- Rows, rounds, and rounds until one changes nothing: for every set of rules that plans drive.
pub mod Rounding
