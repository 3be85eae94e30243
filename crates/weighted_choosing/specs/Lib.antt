pub mod WeightedRows
