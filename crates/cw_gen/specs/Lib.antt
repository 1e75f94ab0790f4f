pub mod Emit
pub mod Excess
pub mod Generates
pub mod Marks
pub mod Written
