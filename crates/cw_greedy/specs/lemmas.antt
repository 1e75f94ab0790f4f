-- Lemmas about boards as lists, for the proofs of the crates above.
pub mod Slots
