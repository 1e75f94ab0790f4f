-- Lemmas on the board, which the proofs of crates above cite.
pub mod Ledgers
