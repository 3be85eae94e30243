pub mod Headers
pub mod AnyKind
