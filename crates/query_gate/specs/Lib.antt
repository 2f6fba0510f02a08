pub mod Questions
pub mod Replies
pub mod Callers
pub mod Leaving
pub mod Slots
pub mod Json
pub mod Said
pub mod Dealing
