pub mod Text
pub mod Ascii
pub mod Splitting
pub mod Putting
