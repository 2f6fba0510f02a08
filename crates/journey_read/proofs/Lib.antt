pub mod Passes
pub mod Faults
pub mod Hours
pub mod RideSteps
pub mod CallSearch
pub mod CallEnds
pub mod CallLists
pub mod TripNames
pub mod LineSteps
pub mod Reading
pub mod Values
pub mod Verdicts
pub mod Going
pub mod Adding
pub mod ClaimLegs
mod JsonReading
