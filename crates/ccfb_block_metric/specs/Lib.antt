pub mod Metric
