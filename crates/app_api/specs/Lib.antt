pub mod Behaviours
pub mod Calls
pub mod Hosts
pub mod Logins
pub mod Outs
pub mod Params
pub mod References
