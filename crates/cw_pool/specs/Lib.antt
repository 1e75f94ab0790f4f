pub mod StrandStacks
pub mod Crews
pub mod Driven
pub mod WorkerFrames
pub mod Seatings
