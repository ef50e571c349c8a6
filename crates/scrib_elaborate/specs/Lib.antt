pub mod Sound
pub mod Meaning
pub mod Sites
pub mod Levels
pub mod Scope
pub mod NoExit
pub mod Typing
pub mod Locality
