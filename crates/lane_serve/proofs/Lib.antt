mod Scripts
mod Runs
pub mod Answering
mod Plans
mod Reports
mod Sent
mod Causes
mod OriginLines
mod Matrices
