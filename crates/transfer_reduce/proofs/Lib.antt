pub mod WordLaws
pub mod Lesser
pub mod Improvement
pub mod Sources
pub mod Alighting
pub mod Reaching
pub mod Steps
