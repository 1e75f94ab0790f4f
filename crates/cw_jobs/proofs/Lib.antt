pub mod Begins
pub mod GivenUp
pub mod Sent
pub mod Joinless
pub mod RestSites
pub mod Strands
pub mod Telling
