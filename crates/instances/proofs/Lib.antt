pub mod Changes
pub mod Fitting
