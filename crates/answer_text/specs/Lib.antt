pub mod Journeys
pub mod Faults
pub mod Checks
pub mod Builds
pub mod Questions
