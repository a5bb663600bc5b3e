pub mod ListingLemmas
pub mod OpeningLemmas
