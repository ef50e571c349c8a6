pub mod Shifting
pub mod Renaming
pub mod Operators
pub mod BuiltType
pub mod Rules
