pub mod FaultLemmas
pub mod WriterLemmas
