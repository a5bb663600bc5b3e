pub mod Keys
pub mod Sealing
