pub mod Rooms
pub mod Entering
pub mod Outputs
pub mod Asking
pub mod Answering
pub mod Steps
pub mod Laws
