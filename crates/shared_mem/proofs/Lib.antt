mod Changes
mod Deliveries
mod HistoryLemmas
mod Keeps
