pub mod PutLaws
pub mod DecimalLaws
pub mod LineLaws
pub mod SplitLaws
pub mod LineSplit
