-- Lemmas on these definitions; the proofs of this crate and of the crates above cite them.
pub mod Apart
pub mod Naming
pub mod Knowing
pub mod Declaring
pub mod Seeing
pub mod Heads
pub mod Numbering
pub mod Finding
pub mod Outcomes
pub mod Capturing
