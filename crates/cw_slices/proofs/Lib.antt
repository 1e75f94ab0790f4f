pub mod Holds
pub mod Lots
pub mod Marks
pub mod Missing
pub mod Readers
pub mod RowCalls
pub mod Runs
pub mod Steps
