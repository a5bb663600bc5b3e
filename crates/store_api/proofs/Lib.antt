pub mod Ascends
pub mod ChangeLaws
pub mod Costs
pub mod History
pub mod MapCalls
pub mod Named
