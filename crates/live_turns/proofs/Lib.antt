pub mod Pieces
pub mod Wholes
pub mod Turns
pub mod Joined
pub mod Nexts
pub mod Sent
mod LastAt
pub mod LiveRuns
pub mod LiveFirst
mod LivePublisher
mod LivedRuns
mod LiveSent
