-- Laws that belong to no one function, bottom to top: on sources and texts,
pub mod Laying
pub mod Given
pub mod Plain
pub mod Shapes
pub mod Laid
pub mod Apart
pub mod Alone
pub mod Canonical
pub mod LegalTexts
pub mod LegalStates
pub mod FiveNames
-- and on the code.
pub mod Units
pub mod Runs
pub mod Filling
pub mod Matching
pub mod Places
pub mod Parts
pub mod Behind
pub mod PlainTexts
pub mod Judging
pub mod Standing
