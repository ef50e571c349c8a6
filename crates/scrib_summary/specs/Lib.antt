pub mod VerdictCounts
pub mod Summaries
