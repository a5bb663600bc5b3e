pub mod PinCommands
pub mod PinAnswers
pub mod PinSteps
pub mod PinHosts
