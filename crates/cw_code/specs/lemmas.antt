-- Lemmas for the proofs of the crates above.
pub mod Slots
pub mod Lying
pub mod Seats
pub mod Runs
pub mod Acts
pub mod StrandActs
pub mod Under
pub mod Budgets
pub mod Rests
pub mod JobsFit
pub mod First
pub mod Ample
