-- Laws that belong to no one function, bottom to top.
pub mod Legality
pub mod Coded
pub mod ValuesHold
