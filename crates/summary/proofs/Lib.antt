pub mod LineEnds
pub mod Tallies
pub mod ThirdWords
