pub mod Decided
pub mod Lists
pub mod Naming
pub mod Rounds
pub mod SlotMarks
pub mod Tables
pub mod Noting
pub mod Numbering
pub mod Spreading
pub mod Verifying
mod Fusing
