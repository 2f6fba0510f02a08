pub mod City
