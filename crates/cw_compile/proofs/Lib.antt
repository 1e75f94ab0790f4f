pub mod Stages
pub mod Refusals
