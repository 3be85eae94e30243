pub mod InOrder
pub mod OrderChoice
pub mod OrderSamples
pub mod Similar
pub mod OrderRows
pub mod RunList
pub mod KeptRows
