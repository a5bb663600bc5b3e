pub mod ChangeLemmas
pub mod CountLemmas
pub mod GatherLemmas
pub mod SealedLemmas
pub mod StartLemmas
pub mod StepLemmas
pub mod TouchedLemmas
pub mod WriteLemmas
