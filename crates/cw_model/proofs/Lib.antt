mod Paths
mod Sites
mod Closure
pub mod Endings
mod Halves
mod LoopTrees
pub mod Spending
mod Numbering
mod FreedSpans
