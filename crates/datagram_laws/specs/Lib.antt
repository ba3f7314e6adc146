pub mod Refused
pub mod Found
pub mod Cursor
pub mod Written
pub mod Starred
