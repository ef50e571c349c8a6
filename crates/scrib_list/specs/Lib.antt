pub mod Readings
pub mod Protocols
pub mod Listings
