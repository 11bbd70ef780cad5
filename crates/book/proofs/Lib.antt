-- Laws that belong to no one function, bottom to top.
pub mod Checked
pub mod Heads
pub mod Contents
pub mod FieldByField
pub mod Whole
pub mod Writes
pub mod RoundTrip
-- What is shown of the public calls.
pub mod BookDetermined
pub mod BookReadsBack
pub mod ReadsSound
pub mod ValuesHold
