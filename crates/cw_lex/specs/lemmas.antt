-- Lemmas on gaps between tokens; the proofs of the crates above cite them.
pub mod Gaps
