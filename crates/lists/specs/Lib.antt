pub mod All
pub mod First
pub mod Kept
