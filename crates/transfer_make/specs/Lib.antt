pub mod ByBerth
