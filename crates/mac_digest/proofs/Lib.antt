pub mod BlockLemmas
pub mod SameLemmas
