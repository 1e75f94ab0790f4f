pub mod Counts
pub mod Gains
pub mod Free
