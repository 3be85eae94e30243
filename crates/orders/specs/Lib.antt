pub mod Sorting
pub mod NestOrder
pub mod SimilarOrder
pub mod KindOrder
pub mod Keys
