pub mod Forms
pub mod Schedules
pub mod Speedups
pub mod Pages
pub mod Analyses
pub mod ModeTexts
pub mod Tools
pub mod Crews
