-- What the closing program prints: its steps, that it is one text, and the document's listing.
pub mod Lists
pub mod Determined
pub mod ExamplesHold
