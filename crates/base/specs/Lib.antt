pub mod Limits
pub mod Tests
pub mod Lowest
pub mod Places
pub mod Members
pub mod Sums
pub mod Lent
pub mod Arrays
