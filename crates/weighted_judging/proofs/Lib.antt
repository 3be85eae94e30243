pub mod WeightedReads
