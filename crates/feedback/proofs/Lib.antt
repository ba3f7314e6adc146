pub mod Window
pub mod Ranges
pub mod Blocks
pub mod Says
pub mod Theorem
pub mod Reported
