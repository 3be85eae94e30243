pub mod OrderLaws
pub mod PointLaws
