mod Inversion
mod Branches
pub mod UniqueMeaning
pub mod ShiftLemmas
pub mod NeededParts
mod RecursionUse
pub mod SoundnessLemmas
mod TypeExistence
pub mod NoEffectLemmas
mod SkippedCalls
mod SizeLemmas
mod FaultRefutations
mod FaultLemmas
mod ZipLemmas
pub mod SiteLemmas
mod FirstChoices
pub mod IsolatedCalls
mod MemoLemmas
mod Steps
mod ChoiceSteps
mod LevelLemmas
mod PassResults
mod ExitLemmas
mod IsolatedBlocks
mod FaultPrefixes
mod WalkRemoval
