pub mod TableText
pub mod WeightedText
pub mod Conversions
pub mod TextSamples
pub mod WeightedTextSamples
