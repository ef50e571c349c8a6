mod MachineSteps
mod ParticipantLemmas
mod OldestLemmas
mod RefusalLemmas
mod NextLemmas
mod ExplanationLemmas
