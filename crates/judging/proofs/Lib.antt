pub mod ReadingLaws
pub mod ListLaws
pub mod PassLaws
