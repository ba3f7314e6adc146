pub mod ByKind
pub mod Words
pub mod Times
