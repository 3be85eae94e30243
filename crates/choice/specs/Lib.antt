pub mod Choice
pub mod ChoiceSamples
pub mod KeepLists
pub mod Programme
pub mod Decisions
