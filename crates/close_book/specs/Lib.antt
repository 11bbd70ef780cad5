-- The definitions that the closing program's contract cites, and the document's listing.
pub mod Listed
pub mod Examples
