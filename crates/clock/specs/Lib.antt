pub mod Clock
pub mod ClockSamples
