pub mod Parsed
pub mod LastAt
pub mod Days
mod LatePath
pub mod Named
