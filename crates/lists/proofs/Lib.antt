pub mod Cases
pub mod All
pub mod First
pub mod Position
pub mod Kept
pub mod Flatten
