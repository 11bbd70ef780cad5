-- Laws that belong to no one function.
pub mod Numbers
pub mod Listed
pub mod HashKept
