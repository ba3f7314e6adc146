pub mod Window
pub mod Given
