-- Laws that belong to no one function.
pub mod Threes
pub mod Said
