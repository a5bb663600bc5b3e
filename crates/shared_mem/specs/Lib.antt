pub mod Blocks
pub mod History
