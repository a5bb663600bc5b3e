pub mod Fuse
pub mod Moment
pub mod Runs
pub mod Steps
