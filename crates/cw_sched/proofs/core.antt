-- The laws of the scheduler's core.
pub mod Executions
pub mod Tally
pub mod Events
pub mod Ample
pub mod Outcomes
pub mod TakeBack
pub mod Root
pub mod Ledgers
