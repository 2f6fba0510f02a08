pub mod UTurns
