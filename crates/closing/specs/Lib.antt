-- What a done closing leaves, and what is refused: the definitions that the contract of `close`, and every crate above, cites.
pub mod Checks
pub mod Closing
