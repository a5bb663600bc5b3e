pub mod HostedLemmas
pub mod OpeningLemmas
pub mod PartLemmas
pub mod StepLemmas
pub mod StorageLemmas
pub mod StorageSteps
