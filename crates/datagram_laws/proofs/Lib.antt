pub mod Kth
pub mod Found
pub mod Refusals
pub mod Cursor
pub mod Written
pub mod Starred
