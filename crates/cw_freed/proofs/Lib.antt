pub mod FreedRuns
pub mod PathLaws
pub mod Runs
pub mod Moves
