-- Lemmas for the proofs of the crates above, with the lemmas that they use.
pub mod Regions
