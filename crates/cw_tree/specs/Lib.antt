pub mod SyntaxView
pub mod Resolved
pub mod ResolvedView
pub mod Declares
pub mod Slots
pub mod Bounds
pub mod Laws
pub mod lemmas
