pub mod TableLemmas
pub mod AskLemmas
pub mod Panics
