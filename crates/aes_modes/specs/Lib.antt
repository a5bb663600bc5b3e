pub mod Conversion
pub mod Laws
pub mod Modes
pub mod Stream
