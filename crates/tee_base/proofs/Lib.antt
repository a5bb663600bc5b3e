pub mod Crash
pub mod LowestFree
