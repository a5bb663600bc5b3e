pub mod Change
pub mod Gather
pub mod Sealed
pub mod Touched
