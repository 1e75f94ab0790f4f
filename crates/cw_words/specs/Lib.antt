pub mod Numbers
pub mod Command
pub mod Requests
pub mod NumberOptions
pub mod WordLaws
pub mod Explaining
