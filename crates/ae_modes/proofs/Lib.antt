pub mod BlockLemmas
pub mod CodeLemmas
pub mod FieldLemmas
pub mod GhashLemmas
pub mod MessageLemmas
pub mod TextLemmas
