-- Lemmas on resolved trees; the proofs of the crates above cite them.
pub mod Few
pub mod Slotted
pub mod NamedSlots
pub mod Looked
pub mod Reducers
pub mod Names
