pub mod Keeps
pub mod Ledgers
pub mod Moves
pub mod Openings
pub mod Outs
pub mod Sights
pub mod Thefts
