-- Lemmas on machines, which the proofs of crates above cite.
pub mod Joins
pub mod Rounds
