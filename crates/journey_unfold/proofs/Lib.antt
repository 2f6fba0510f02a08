pub mod Results
pub mod Spelling
pub mod Chains
