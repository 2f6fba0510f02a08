pub mod Cutting
pub mod Quoted
