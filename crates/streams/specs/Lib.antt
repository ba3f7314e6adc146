pub mod Full
pub mod Model
pub mod Reading
pub mod Alone
pub mod Runs
