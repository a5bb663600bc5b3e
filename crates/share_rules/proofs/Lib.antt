pub mod Counts
pub mod Entries
pub mod Groups
pub mod Together
