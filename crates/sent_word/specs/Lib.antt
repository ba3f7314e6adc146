pub mod Status
pub mod Word
