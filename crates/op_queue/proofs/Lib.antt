pub mod Keeps
pub mod Places
pub mod Runs
pub mod Started
pub mod Told
