pub mod Latest
pub mod Text
