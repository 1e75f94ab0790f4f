-- Lemmas on totals and on the places of arrays, which the proofs of crates above cite.
pub mod Totals
pub mod Homes
pub mod Events
pub mod Spawns
pub mod StepEvents
