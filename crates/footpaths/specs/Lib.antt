pub mod Limits
pub mod Stops
pub mod Links
pub mod Footpaths
pub mod BestRules
pub mod LinkedPlatforms
pub mod Law
