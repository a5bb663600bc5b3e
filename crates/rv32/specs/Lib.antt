pub mod Fields
pub mod Decode
pub mod Operate
pub mod Memory
pub mod Machine
