-- Lemmas that proofs of the crates above cite.
pub mod Places
