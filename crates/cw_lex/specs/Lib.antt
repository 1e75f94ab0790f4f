pub mod Faults
pub mod Uncut
pub mod Front
pub mod Traversal
pub mod Laws
pub mod lemmas
