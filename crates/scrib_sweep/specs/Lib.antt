pub mod Sweeps
pub mod ConversationTurns
