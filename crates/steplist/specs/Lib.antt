-- The definitions that the contracts of `steplist`, and the third condition for the public calls, cite.
pub mod Filling
pub mod Asking
pub mod Over
