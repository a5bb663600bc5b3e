pub mod Groups
pub mod Sharing
