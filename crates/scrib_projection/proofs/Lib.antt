pub mod EqualBranches
pub mod AlternativeLemmas
pub mod SurveyedTypes
pub mod SurveyedBranches
pub mod Texts
