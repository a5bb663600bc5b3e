pub mod Changing
pub mod Directories
pub mod Kept
pub mod KeptDirs
pub mod Laws
pub mod Regions
