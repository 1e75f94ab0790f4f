pub mod Bounds
pub mod Sums
pub mod Ranks
pub mod FreeSites
pub mod GainTable
