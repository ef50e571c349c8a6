mod Choices
pub mod ReasonLemmas
mod FindLemmas
mod Samples
