pub mod Codes
pub mod Summaries
pub mod Told
