pub mod Damages
