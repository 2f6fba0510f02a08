pub mod ReadBack
pub mod Numbers
pub mod Framed
pub mod Digits
pub mod Names
pub mod Checked
