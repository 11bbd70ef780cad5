-- Laws that belong to no one function.
pub mod ReadAndClosed
pub mod Exported
pub mod ExportDetermined
pub mod PublicConditionThree
pub mod TriplesPlaced
