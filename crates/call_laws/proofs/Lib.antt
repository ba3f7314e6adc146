pub mod Numbers
pub mod Calls
pub mod Walk
pub mod Part
