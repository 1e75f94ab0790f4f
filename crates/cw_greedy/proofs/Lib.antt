mod Steps
mod Bounds
mod Jumps
mod Like
mod Jumping
mod Edges
mod Blocks
mod Counts
mod Slots
mod Progress
mod Ranks
mod Rounds
pub mod Merged
pub mod Moves
pub mod Normals
pub mod Recordings
pub mod Starting
