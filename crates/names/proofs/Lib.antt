-- Laws that belong to no one function.
pub mod Same
pub mod Entries
pub mod Looking
pub mod Hashing
pub mod Answering
pub mod Made
pub mod Meaning
pub mod FiveTexts
pub mod Examples
