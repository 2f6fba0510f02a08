pub mod Choices
pub mod UnderWay
pub mod Ridden
pub mod Sweeping
pub mod Bounding
pub mod Noted
pub mod Meeting
pub mod Parts
