mod Branches
mod OperatorIndexLemmas
mod OriginLemmas
mod Receivers
