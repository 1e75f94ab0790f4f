-- Lemmas on recorded reasons; the proofs of the crates above cite them.
pub mod Kept
pub mod Order
pub mod RecordingReasons
