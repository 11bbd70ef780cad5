-- The definitions that the contracts of `field`, and of books and questions above it, cite.
pub mod Numbers
pub mod Fields
