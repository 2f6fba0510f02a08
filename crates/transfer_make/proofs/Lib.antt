pub mod Sparse
pub mod OwnLine
pub mod ByBerth
