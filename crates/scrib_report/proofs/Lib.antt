pub mod EventLine
mod HeadedEventLemmas
mod LabelledMembers
mod Members
mod Totals
