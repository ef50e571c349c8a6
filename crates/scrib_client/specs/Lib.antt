pub mod ServiceReplies
pub mod ConnectionPasses
pub mod Steps
