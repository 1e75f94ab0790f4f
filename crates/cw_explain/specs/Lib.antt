pub mod Lines
pub mod Going
