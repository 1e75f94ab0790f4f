pub mod Faults
pub mod Sources
pub mod AreRecorded
pub mod Rising
pub mod RecordedReasons
pub mod Laws
pub mod lemmas
