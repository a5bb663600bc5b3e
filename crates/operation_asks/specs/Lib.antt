pub mod Asks
pub mod Effects
pub mod Kept
pub mod Links
pub mod OneOperation
pub mod Past
pub mod Represents
pub mod Table
