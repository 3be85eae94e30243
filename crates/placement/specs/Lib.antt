pub mod Placing
pub mod ByPosition
pub mod PlacingSamples
pub mod Chains
pub mod Outcomes
pub mod GapFilling
pub mod HeldRuns
