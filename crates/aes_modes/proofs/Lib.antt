pub mod BlockLemmas
pub mod CounterLemmas
pub mod LawLemmas
pub mod TextLemmas
