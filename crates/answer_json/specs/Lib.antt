pub mod Frames
pub mod Journeys
pub mod Reached
pub mod Travel
pub mod Builds
pub mod Faults
pub mod Checks
pub mod Shown
