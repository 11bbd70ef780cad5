-- The definitions of rho-df that closing, and every crate above it, cites.
pub mod Graph
pub mod Rules
pub mod Closure
pub mod Plain
pub mod Examples
pub mod YearExamples
