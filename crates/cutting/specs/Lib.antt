pub mod Limits
pub mod Cutting
pub mod Filling
pub mod Plan
