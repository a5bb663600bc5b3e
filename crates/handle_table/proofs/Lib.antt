pub mod Counts
pub mod Conflicts
pub mod Changes
pub mod Keeps
