pub mod FindingLines
pub mod FindingObjects
pub mod FindingTexts
