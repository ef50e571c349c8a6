pub mod PassLemmas
pub mod IndexLemmas
