pub mod Metric
pub mod ReadBack
pub mod Starred
