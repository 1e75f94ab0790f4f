pub mod Tests
pub mod Options
pub mod Lists
pub mod Integers
pub mod Items
pub mod lemmas
