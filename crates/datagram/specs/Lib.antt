pub mod Datagram
pub mod Walk
pub mod Feedback
