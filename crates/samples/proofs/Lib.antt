pub mod SameLaws
pub mod Computed
pub mod LaunchSamples
pub mod SampleLaws
pub mod RefusalLaws
pub mod WeightedComputed
pub mod WeightedLaws
