pub mod Counts
pub mod MoreTrips
pub mod KeptSets
pub mod Keeps
pub mod Loops
pub mod Drawing
pub mod Placing
pub mod EventSteps
