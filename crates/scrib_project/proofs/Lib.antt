pub mod ProfileLemmas
pub mod Projections
pub mod Protocols
pub mod UndefinedProjections
pub mod FirstDifferences
pub mod PositionLemmas
