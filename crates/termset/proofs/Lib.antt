-- What is in a set of terms, and in one with a term more.
pub mod Holding
pub mod Counting
