pub mod Listings
pub mod Openings
pub mod Spots
