-- Lemmas on slices, which the proofs of crates above cite.
pub mod Patches
pub mod Rights
pub mod Sent
