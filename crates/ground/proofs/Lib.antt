-- Laws of what specs/ defines, and those of tests and bits that the kit has not.
pub mod Bools
pub mod Tab
pub mod Each
pub mod Below
pub mod Bitwise
pub mod Masks
