pub mod Algorithms
pub mod Operations
pub mod Random
pub mod Represents
