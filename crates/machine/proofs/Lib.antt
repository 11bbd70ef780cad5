-- Laws that belong to no one function, bottom to top.
pub mod Stopping
pub mod Replaying
pub mod Tracing
pub mod Reading
pub mod Marking
pub mod Paying
pub mod Turning
pub mod Whole
pub mod WrongCount
-- What is shown of the public call.
pub mod RunDetermined
pub mod RunBounds
pub mod RunWork
