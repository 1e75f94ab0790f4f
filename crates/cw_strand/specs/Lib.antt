pub mod Levels
pub mod Holds
pub mod Moves
pub mod Giving
pub mod Losing
