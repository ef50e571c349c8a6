pub mod Called
pub mod Settling
