pub mod Segments
pub mod StepLemmas
pub mod RangeLemmas
