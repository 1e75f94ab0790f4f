mod Modes
mod ReportRows
mod Ordered
mod Runs
mod Tools
pub mod ReadWords
mod Drawing
