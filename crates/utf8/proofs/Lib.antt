-- Laws that belong to no one function.
pub mod Judged
pub mod Cases
pub mod Decoding
pub mod Standing
pub mod Agree
pub mod Laying
pub mod Texts
pub mod Seeing
pub mod Examples
