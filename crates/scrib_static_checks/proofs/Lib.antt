pub mod TableLemmas
pub mod GivenRoles
pub mod RuleLemmas
pub mod CallEffectLemmas
mod ModuleNameLemmas
pub mod NameLemmas
pub mod Places
pub mod Checks
pub mod Walks
pub mod Spots
mod CapLemmas
pub mod SizeFunctionLemmas
mod PartLemmas
mod ModulePlaceLemmas
pub mod Slots
mod ProtocolIndexLemmas
