pub mod AeLemmas
pub mod KeyLemmas
pub mod RandomLemmas
