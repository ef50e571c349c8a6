pub mod Tags
pub mod SessionNames
pub mod SessionLines
pub mod NameSlots
pub mod Naming
