pub mod Calls
pub mod Cuts
pub mod Jobs
pub mod Means
pub mod Totals
pub mod Opens
pub mod Strands
pub mod lemmas
