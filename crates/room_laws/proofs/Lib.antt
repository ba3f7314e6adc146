pub mod Enough
pub mod Least
pub mod Theorems
