pub mod Seen
pub mod Reported
