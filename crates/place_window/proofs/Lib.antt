pub mod Moving
pub mod Opening
pub mod Given
