pub mod IdentifyLemmas
pub mod KeptLemmas
pub mod ReadLemmas
pub mod VerifyLemmas
pub mod WalkLemmas
