pub mod FreedRuns
pub mod Paths
pub mod Freeing
