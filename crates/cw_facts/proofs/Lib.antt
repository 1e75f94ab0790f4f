pub mod Reaching
pub mod Giving
