-- The core of the scheduler, on numbers: the table of events, the board, and their laws.
pub mod Board
pub mod Ledger
pub mod Table
pub mod Laws
pub mod TakeBack
pub mod Executions
