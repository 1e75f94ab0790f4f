-- Lemmas for the proofs of the crates above, with the lemmas that they use.
pub mod BlockPaths
pub mod ChosenPaths
pub mod OpenPaths
pub mod SiteRows
pub mod Tables
