pub mod HeldLines
pub mod Lines
pub mod Placement
pub mod Progress
