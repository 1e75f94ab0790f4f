pub mod Fusing
pub mod Table
pub mod Meetings
pub mod Numbers
pub mod Resolving
pub mod Verifies
pub mod Views
pub mod Steps
