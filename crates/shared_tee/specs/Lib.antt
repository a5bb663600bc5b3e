pub mod Beginning
pub mod Dealing
pub mod Ending
pub mod Making
pub mod Passes
pub mod Shared
