-- Laws that belong to no one function.
pub mod Firsts
pub mod Sorts
pub mod Handing
