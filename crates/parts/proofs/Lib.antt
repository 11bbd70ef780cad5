-- Laws that belong to no one function.
pub mod Refusing
pub mod Tags
pub mod Fitting
pub mod Second
pub mod Accepted
pub mod SurelyBound
pub mod Faulty
pub mod Limits
pub mod LowestPlace
pub mod ReadsBack
