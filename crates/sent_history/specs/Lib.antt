pub mod Calls
pub mod Meaning
pub mod Model
pub mod Reading
pub mod Stream
pub mod Alone
pub mod Starred
