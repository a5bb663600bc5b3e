pub mod HostedApps
pub mod InStep
pub mod Seating
pub mod StorageParts
pub mod StorageTurns
