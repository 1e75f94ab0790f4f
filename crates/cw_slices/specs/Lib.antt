pub mod Blocks
pub mod OwnedMemory
pub mod Loose
pub mod Memory
pub mod Placed
pub mod lemmas
