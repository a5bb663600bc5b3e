mod AllEnd
mod BeginLemmas
pub mod BoardEnds
mod CellEnds
pub mod Crosses
mod DealLemmas
mod Exits
mod JoinLemmas
mod MakeLemmas
pub mod PassLemmas
mod PauseLemmas
mod StorageEnds
mod StoredLemmas
