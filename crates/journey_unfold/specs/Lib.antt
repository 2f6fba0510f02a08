pub mod Unfolded
