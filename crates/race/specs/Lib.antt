pub mod Clients
pub mod Dealing
pub mod Following
pub mod Outcomes
pub mod Races
pub mod Racing
pub mod Wishes
pub mod Workers
