-- What the counter prints: its turns, that it is one text, that `main` writes it, and the document's examples.
pub mod Nexts
pub mod Asking
pub mod Turning
pub mod Counting
pub mod ExamplesHold
