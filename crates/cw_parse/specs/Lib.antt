pub mod Reading
pub mod Marks
pub mod Parts
pub mod Seen
pub mod Nesting
pub mod Parsed
