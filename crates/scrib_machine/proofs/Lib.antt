pub mod Rows
pub mod SortedEdges
pub mod Branches
pub mod ClosedSubstitution
pub mod LayoutLemmas
pub mod LayoutConditions
pub mod States
