-- Laws that belong to no one function.
pub mod Fives
pub mod Rows
pub mod Writes
-- What is shown of writing.
pub mod Values
pub mod Eols
pub mod Lined
pub mod Canonical
-- What is shown of reading.
pub mod ReadingMeansMet
pub mod ReadingMeansRows
pub mod ReadingMeansTexts
pub mod ReadingMeansHeld
pub mod ReadingMeansLines
pub mod ReadingMeans
pub mod ReadingMeansExamples
-- What is shown of both.
pub mod RoundTrip
pub mod ReadWritten
