pub mod Words
pub mod Scans
pub mod Queue
pub mod Clipped
pub mod Traced
pub mod Levels
pub mod WalkGroups
