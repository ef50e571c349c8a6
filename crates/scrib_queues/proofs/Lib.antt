pub mod Lookups
pub mod QueueViews
