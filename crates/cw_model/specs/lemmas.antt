-- Lemmas about the definitions, for the proofs of the crates above.
pub mod Kept
pub mod Spans
pub mod Firsts
pub mod Names
pub mod Lowest
pub mod Parts
pub mod Regrouping
pub mod Fits
pub mod Freed
pub mod LoopPieces
