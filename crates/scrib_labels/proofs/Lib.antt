mod FieldLemmas
mod NamingLemmas
pub mod NumberedLines
mod TagLemmas
mod VisibleLemmas
