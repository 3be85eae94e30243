pub mod TextSamples
pub mod WeightedTextSamples
pub mod TextRoundTrip
pub mod TextLength
