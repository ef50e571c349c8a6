pub mod Channels
pub mod Codes
pub mod Layout
