pub mod Given
pub mod ByHistory
