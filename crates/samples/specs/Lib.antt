pub mod Inputs
pub mod Samples
pub mod Refusals
pub mod WeightedSamples
pub mod SampleTests
pub mod WeightedTests
