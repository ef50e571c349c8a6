pub mod Reasons
pub mod Tests
