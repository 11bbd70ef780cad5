-- The definitions that the contracts of `question`, and of what runs questions, cite.
pub mod Steps
pub mod LegalSteps
pub mod Records
pub mod Compiling
pub mod StepLimit
pub mod Values
pub mod Inner
