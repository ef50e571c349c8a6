pub mod Machines
pub mod Compilable
pub mod Layout
pub mod Paths
pub mod Graph
pub mod Projects
pub mod Projected
