pub mod Entries
pub mod Conversations
pub mod Changes
pub mod Firsts
pub mod Deadlines
pub mod Stages
pub mod Steps
pub mod PendingClosings
