pub mod ClosingScripts
pub mod Progress
