pub mod Known
pub mod Times
pub mod Calls
pub mod Rides
pub mod TripNames
pub mod Claims
pub mod JsonClaims
pub mod Judging
