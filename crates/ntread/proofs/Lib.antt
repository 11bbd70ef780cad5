-- Laws that belong to no one function.
pub mod Parting
pub mod Reached
pub mod Filled
pub mod Bounded
pub mod Whole
