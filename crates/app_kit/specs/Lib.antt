pub mod Parameters
pub mod Reactions
