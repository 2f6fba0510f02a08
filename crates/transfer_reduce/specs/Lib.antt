pub mod Words
pub mod LabelsData
pub mod Reached
pub mod Reduced
pub mod Tried
