pub mod Reach
pub mod Text
pub mod TimesText
pub mod Arriving
pub mod Spreading
pub mod TravelTimes
pub mod Ranks
pub mod Swept
