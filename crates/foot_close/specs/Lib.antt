pub mod Closure
pub mod Shortest
pub mod Searching
pub mod Tables
pub mod Closing
