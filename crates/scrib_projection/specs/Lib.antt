pub mod Differences
pub mod Merging
pub mod Projections
pub mod Surveys
pub mod Text
