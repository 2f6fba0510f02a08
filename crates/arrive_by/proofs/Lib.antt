pub mod Backwards
pub mod Found
