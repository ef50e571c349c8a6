pub mod FlatFormLemmas
pub mod NumberLemmas
pub mod HashLemmas
