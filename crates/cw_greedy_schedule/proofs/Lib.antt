pub mod Chunks
pub mod Plans
pub mod Reading
pub mod Releasing
pub mod State
pub mod Weighing
pub mod Jumps
pub mod Slots
pub mod Parts
pub mod Over
pub mod Boards
pub mod Groups
pub mod Lines
pub mod RunSchedule
pub mod Within
mod Charges
mod Counted
mod RunFacts
