pub mod Clock
pub mod History
