-- The definitions that the counter's contracts cite, its `main` in words, and the document's examples.
pub mod Counted
pub mod Turns
pub mod Run
pub mod Examples
